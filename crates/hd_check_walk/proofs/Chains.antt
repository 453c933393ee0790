-- A walk along a chain of twins.
use Rattle.std.proofs.Common.{◌≡◌, ◌≢◌, inl, inr, ℕ, suc, List, Option, Some, None, IfSome, refl, sym, ap, subst, ◌∙◌, arith}
use Rattle.std.proofs.lemmas.Bool.{cases_eq}
use Rattle.hd_dbd.specs.Types.{SegmentType}
use Rattle.hd_volume.specs.Volumes.{VolumeState}
use Rattle.hd_links.specs.Links.{Links, IsSegment}
use Rattle.hd_links.specs.Pointers.{IsParentOfFirst, IsTwinAfter, IsInChain, IsReached, Precedes}
use Rattle.hd_image.specs.Records.{links_of}
use Rattle.hd_check_blocks.specs.declared.places.Place.{Place}
use Rattle.hd_check_blocks.specs.Places.{ArePlaces, place_at}
use Rattle.hd_check_pointers.proofs.TwinChains.{chain-on, chain-some}
use Rattle.hd_check_walk.specs.Walks.{IsHeldBy, IsFollowed, StaysHeld, IsWalkedSoFar, LeadsTo, IsOnChain, IsEnd}
use Rattle.hd_check_walk.proofs.Staying.{held-stays}
use Rattle.hd_check_walk.proofs.Steps.{stands, coded}

-- what holds of a thing that is there
pub when-some : {A : Type 0} (P : A → Type 0) (o : Option A) (x : A) → o ≡ Some x → IfSome o P → P x
when-some P (Some y) x is h = subst P (let e : Some y ≡ Some x = is in cc) h
when-some P None x is h = absurd (let e : None ≡ Some x = is in cc)

-- what is held stays held from one step to the next
pub stays-join : (xs ys zs : List ℕ) → StaysHeld xs ys → StaysHeld ys zs → StaysHeld xs zs
stays-join xs ys zs one two i known = two i (λ e. known (sym (one i known) ∙ e)) ∙ one i known

-- at the beginning
pub on-first : (types : List SegmentType) (m : Links) (ps : List Place) (xs : List ℕ) (h t first : ℕ) → IsOnChain types m ps xs h t first 0 first
on-first types m ps xs h t first = record { start = λ z. refl; twin = λ not. absurd (not refl) }

module _ (types : List SegmentType) (v : VolumeState) (ps : List Place) (are : ArePlaces types v ps) where
  -- a segment that is held is one of the type
  pub held-there : (xs : List ℕ) (h t p : ℕ) → IsHeldBy ps xs h t p → IsSegment (links_of types v) p × ((links_of types v).code p ≡ t)
  held-there xs h t p is =
      let at : (place_at ps is.0).address ≡ p = ap (λ (q : Place). q.address) is.2 in (
        subst (IsSegment (links_of types v)) at (stands types v ps are is.0 is.1),
        ap (links_of types v).code (sym at) ∙ coded types v ps are is.0 is.1 ∙ ap (λ (q : Place). q.code) is.2,
      )

  module _ (h t first : ℕ) (parent : IsParentOfFirst types (links_of types v) h t first) (reached : (n : ℕ) × IsReached types (links_of types v) n h) where
    -- a pointer leads on to the next
    pub leads-on : (xs : List ℕ) (before next holder : ℕ) → IsOnChain types (links_of types v) ps xs h t first before next → (before ≡ 0 → holder ≡ h) → (before ≢ 0 → holder ≡ before)
        → LeadsTo types (links_of types v) holder t before next
    leads-on xs before next holder on by-parent by-twin = record {
      first = λ z. subst (λ (x : ℕ). IsParentOfFirst types (links_of types v) x t next) (sym (by-parent z)) (subst (IsParentOfFirst types (links_of types v) h t) (sym (on.start z)) parent);
      twin = λ not. (let r = on.twin not in let same : holder ≡ before = by-twin not in (
        sym same,
        record { holder = subst (IsSegment (links_of types v)) (sym same) r.there.0; names = ap (links_of types v).forward same ∙ r.names },
        ap (links_of types v).code same ∙ r.there.1,
      ));
      reached = elim (cases_eq before 0) [
        | inl z ↦ (reached.0, subst (IsReached types (links_of types v) reached.0) (sym (by-parent z)) reached.1)
        | inr not ↦ (let r = (on.twin not).reached in (r.0, subst (IsReached types (links_of types v) r.0) (sym (by-twin not)) r.1))
      ];
    }

    -- what leads to a segment is a predecessor
    leads-before : (holder before next : ℕ) → LeadsTo types (links_of types v) holder t before next → Precedes types (links_of types v) holder next
    leads-before holder before next leads = elim (cases_eq before 0) [
      | inl z ↦ inr (t, leads.first z)
      | inr not ↦ inl (leads.twin not).1
    ]

    -- the chain comes to the next
    comes : (xs : List ℕ) (before next : ℕ) → next ≢ 0 → IsOnChain types (links_of types v) ps xs h t first before next → IsInChain (links_of types v) first next
    comes xs before next some on = elim (cases_eq before 0) [
      | inl z ↦ (let same = on.start z in (0, (omega arith, sym same)))
      | inr not ↦ (let r = on.twin not in let names = r.names in (
        suc r.chain.0,
        subst (IsTwinAfter (links_of types v) (suc r.chain.0) first) r.names (chain-on (links_of types v) r.chain.0 first before r.chain.1 (omega arith)),
      ))
    ]

    -- the walk goes on
    pub on-next : (xs ys : List ℕ) (before next holder forward : ℕ) → next ≢ 0 → IsOnChain types (links_of types v) ps xs h t first before next → (before ≡ 0 → holder ≡ h) → (before ≢ 0 → holder ≡ before)
        → StaysHeld xs ys → IsHeldBy ps ys holder t next → forward ≡ (links_of types v).forward next → IsOnChain types (links_of types v) ps ys h t first next forward
    on-next xs ys before next holder forward some on by-parent by-twin stays held is =
        let leads = leads-on xs before next holder on by-parent by-twin in
        let there = held-there ys holder t next held in
        record {
          start = λ z. absurd (some z);
          twin = λ not. record {
            chain = comes xs before next some on;
            names = sym is;
            held = elim (cases_eq before 0) [
              | inl z ↦ subst (λ (x : ℕ). IsHeldBy ps ys x t first) (by-parent z) (subst (IsHeldBy ps ys holder t) (on.start z) held)
              | inr was ↦ held-stays ps xs ys h t first stays (on.twin was).held
            ];
            there = there;
            reached = (suc leads.reached.0, (there.0, (holder, leads.reached.1, leads-before holder before next leads)));
          };
        }

    -- at the end of the chain the first was followed
    pub end-first : (xs : List ℕ) (before next : ℕ) → next ≡ 0 → IsOnChain types (links_of types v) ps xs h t first before next → IsFollowed ps xs h t first
    end-first xs before next over on = elim (cases_eq before 0) [
      | inl z ↦ inl (sym (on.start z) ∙ over)
      | inr not ↦ inr (on.twin not).held
    ]

    -- and the twin is the last
    pub end-last : (xs : List ℕ) (before next : ℕ) → next ≡ 0 → IsOnChain types (links_of types v) ps xs h t first before next → IsEnd (links_of types v) first before
    end-last xs before next over on = record {
      some = λ some. elim (cases_eq before 0) [
        | inl z ↦ absurd (let same = on.start z in omega arith)
        | inr not ↦ (let r = on.twin not in (r.chain, r.names ∙ over))
      ];
      none = λ none. elim (cases_eq before 0) [
        | inl z ↦ z
        | inr not ↦ absurd (let r = on.twin not in let some = chain-some (links_of types v) r.chain.0 first before r.chain.1 in omega arith)
      ];
    }

    -- nothing is open there
    pub end-shut : (xs waiting : List ℕ) (before next in_hand : ℕ) → next ≡ 0 → IsOnChain types (links_of types v) ps xs h t first before next
        → IsWalkedSoFar types (links_of types v) ps before in_hand waiting xs → IsWalkedSoFar types (links_of types v) ps 0 in_hand waiting xs
    end-shut xs waiting before next in_hand over on walked = record {
      right = walked.right;
      reached = walked.reached;
      forward = λ i l known shut. elim (cases_eq (place_at ps i).address before) [
        | inl is ↦ inl (let not : before ≢ 0 = (λ z. shut (is ∙ z)) in ap (links_of types v).forward is ∙ (on.twin not).names ∙ over)
        | inr isnt ↦ walked.forward i l known isnt
      ];
      children = walked.children;
      waits = walked.waits;
    }
