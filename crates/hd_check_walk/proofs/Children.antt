-- The children of a segment, walked type by type.
use Rattle.std.proofs.Common.{◌≡◌, ◌≢◌, ◌⊎◌, inl, inr, ℕ, ◌+◌, ◌<◌, ◌≤◌, List, drop, slice_index_or, length, true, refl, sym, ap, subst, ◌∙◌, arith}
use Rattle.std.specs.Prelude.{slice_index}
use Rattle.std.proofs.lemmas.Bool.{cases_eq, false≢true}
use Rattle.std.proofs.lemmas.List.{drop_more}
use Rattle.std.proofs.Math.ListN.{drop_of_length-le}
use Rattle.hd_dbd.specs.Types.{SegmentType}
use Rattle.hd_dbd.specs.Hierarchy.{Database}
use Rattle.hd_dbd.specs.Prefixes.{children_of}
use Rattle.hd_dbd.proofs.Levels.{type_within}
use Rattle.hd_volume.specs.Volumes.{VolumeState}
use Rattle.hd_prefix.specs.Fields.{code_of}
use Rattle.hd_links.specs.Links.{Links, IsSegment, child_types, is_child_type, is_last_kept}
use Rattle.hd_links.specs.Pointers.{IsInChain}
use Rattle.hd_links.proofs.Types.{is_in, in_cases}
use Rattle.hd_image.specs.Records.{links_of, IsVolumeOf}
use Rattle.hd_image.proofs.Found.{segment-found, stored-found}
use Rattle.hd_check_blocks.specs.declared.places.Place.{Place}
use Rattle.hd_check_blocks.specs.Places.{place_at}
use Rattle.hd_check_pointers.specs.Twins.{IsLastRight}
use Rattle.hd_check_pointers.proofs.LastChildren.{hand-in, listed}
use Rattle.hd_check_walk.specs.declared.notes.Named.{Named}
use Rattle.hd_check_walk.specs.Notes.{named_at, named_of, HasChildrenAt, IsChildNumber}
use Rattle.hd_check_walk.specs.Walks.{IsFollowed, StaysHeld, AreChildrenWalked, IsWalkedSoFar, IsEnd}
use Rattle.hd_check_walk.proofs.Staying.{followed-stays}

-- The children of a type are walked: the first was followed, and the last, where it is kept, is the last twin of its chain.
abbrev pub IsTypeWalked : List SegmentType → Links → List Place → List ℕ → ℕ → ℕ → Type 0
IsTypeWalked types m ps xs h t = IsFollowed ps xs h t (m.first_child h t) × (is_last_kept types t ≡ true → IsLastRight m h t)

-- each type is left, or its children are walked
abbrev pub IsLeftOrWalked : List SegmentType → Links → List Place → List ℕ → ℕ → List ℕ → ℕ → Type 0
IsLeftOrWalked types m ps xs h ts i = (u : ℕ) → is_in ts u ≡ true → (is_in (drop i ts) u ≡ true) ⊎ IsTypeWalked types m ps xs h u

-- the last twin of the chain that was walked is the last child that is named
pub end-right : (m : Links) (h t first end : ℕ) → first ≡ m.first_child h t → end ≡ m.last_child h t → IsEnd m first end → IsLastRight m h t
end-right m h t first end is last e = record {
  some = λ some. (let r = e.some (subst (λ (x : ℕ). 0 < x) (sym is) some) in (
    subst (IsInChain m (m.first_child h t)) last (subst (λ (x : ℕ). IsInChain m x end) is r.0),
    ap m.forward (sym last) ∙ r.1,
  ));
  none = λ none. sym last ∙ e.none (is ∙ none);
}

module _ (types : List SegmentType) (m : Links) (ps : List Place) (xs ys : List ℕ) (h : ℕ) (ts : List ℕ) (i : ℕ) where
  -- one type fewer is left
  pub walked-more : i < length ts → StaysHeld xs ys → IsTypeWalked types m ps ys h (slice_index_or ts i 0) → IsLeftOrWalked types m ps xs h ts i → IsLeftOrWalked types m ps ys h ts (i + 1)
  walked-more within stays hand before u among = elim (before u among) [
    | inr known ↦ inr (followed-stays ps xs ys h u (m.first_child h u) stays known.0, known.1)
    | inl left ↦ elim (in_cases (slice_index_or ts i 0) u (drop (i + 1) ts) (ap (λ (us : List ℕ). is_in us u) (sym (drop_more ts i 0 within)) ∙ left)) [
      | inl same ↦ inr (subst (IsTypeWalked types m ps ys h) same hand)
      | inr later ↦ inl later
    ]
  ]

  -- where none is left all children are walked
  pub all-walked : length ts ≤ i → child_types types (m.code h) ≡ ts → IsLeftOrWalked types m ps xs h ts i → AreChildrenWalked types m ps xs h
  all-walked end list before =
      let known : (t : ℕ) → is_child_type types (m.code h) t ≡ true → IsTypeWalked types m ps xs h t =
      λ t child. elim (before t (sym (ap (λ (us : List ℕ). is_in us t) list) ∙ child)) [
        | inr is ↦ is
        | inl left ↦ absurd (false≢true (ap (λ (us : List ℕ). is_in us t) (sym (drop_of_length-le ts end)) ∙ left))
      ] in
      record { firsts = λ t child. (known t child).0; lasts = λ t child kept. (known t child).1 kept }

-- where the children in hand are walked none are in hand
pub hand-walked : (types : List SegmentType) (m : Links) (ps : List Place) (xs waiting : List ℕ) (n other : ℕ) → AreChildrenWalked types m ps xs (place_at ps n).address
    → IsWalkedSoFar types m ps 0 n waiting xs → IsWalkedSoFar types m ps 0 other waiting xs
hand-walked types m ps xs waiting n other all walked = record {
  right = walked.right;
  reached = walked.reached;
  forward = walked.forward;
  children = λ i l known isnt idle. elim (cases_eq i n) [
    | inl e ↦ subst (λ (k : ℕ). AreChildrenWalked types m ps xs (place_at ps k).address) (sym e) all
    | inr ne ↦ walked.children i l known ne idle
  ];
  waits = walked.waits;
}

-- a segment has a type
pub code-some : (d : Database) (v : VolumeState) (a : ℕ) → IsVolumeOf d v → IsSegment (links_of d.types v) a → (links_of d.types v).code a ≢ 0
code-some d v a of s z =
    let h = segment-found d v a of.fit of s in
    let own : (links_of d.types v).code a ≡ code_of h.bytes = ap code_of (stored-found d v a h) in
    let is = (type_within d.types (code_of h.bytes) h.own h.typed).0 in
    omega arith

-- the types that are listed for a segment's are those of its children
pub types-listed : (d : Database) (v : VolumeState) (a c : ℕ) (ts : List ℕ) → IsVolumeOf d v → IsSegment (links_of d.types v) a → (links_of d.types v).code a ≡ c → ts ≡ children_of d.types c
    → child_types d.types ((links_of d.types v).code a) ≡ ts
types-listed d v a c ts of s own list =
    ap (child_types d.types) own ∙ listed d.types c ts (λ z. code-some d v a of s (own ∙ z)) list

-- the type in hand is one of them
pub hand-typed : (types : List SegmentType) (m : Links) (h : ℕ) (ts : List ℕ) (i : ℕ) → i < length ts → child_types types (m.code h) ≡ ts → is_child_type types (m.code h) (slice_index_or ts i 0) ≡ true
hand-typed types m h ts i within list = ap (λ (us : List ℕ). is_in us (slice_index_or ts i 0)) list ∙ hand-in types m h ts i within

-- and comes behind so many others
pub hand-numbered : (types : List SegmentType) (m : Links) (h : ℕ) (ts : List ℕ) (i j : ℕ) → i < length ts → child_types types (m.code h) ≡ ts → j ≡ i → IsChildNumber types m h j (slice_index_or ts i 0)
hand-numbered types m h ts i j within list same = subst (λ (k : ℕ). IsChildNumber types m h k (slice_index_or ts i 0)) (sym same)
    (subst (λ (us : List ℕ). (i < length us) × (slice_index_or ts i 0 ≡ slice_index us i)) (sym list) (within, refl))

-- what is noted of the children of a type is what the segment names
pub noted-named : (types : List SegmentType) (m : Links) (named : List Named) (p a j t : ℕ) (pair : Named) → HasChildrenAt types m named p a → IsChildNumber types m a j t → pair ≡ named_at named (p + j)
    → pair ≡ named_of m a t
noted-named types m named p a j t pair has child is = is ∙ has.each j child.0 ∙ ap (named_of m a) (sym child.1)
