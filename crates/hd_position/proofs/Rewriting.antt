-- A row that gets new bytes ends the holds of it.
use Rattle.std.proofs.Common.{◌≡◌, ℕ, zero, suc, ◌<◌, List, [], ◌∷◌, length, Bool, true, false, cond, ◌||◌, ap, ap₂, sym, ◌∙◌, subst, refl, inl, inr, Option, Some, None}
use Rattle.std.specs.Prelude.{map, option_map, ◌==◌}
use Rattle.std.specs.Option.{option_eq}
use Rattle.std.specs.List.{list_any}
use Rattle.std.proofs.lemmas.Bool.{cases_Bool, cases_eq, cond-true, cond-false, eq-eqb, ne_eqb}
use Rattle.hd_dbd.specs.Forest.{Forest}
use Rattle.hd_calls.specs.Moves.{is_rewritten, position_after_rewrite}
use Rattle.hd_links.specs.Links.{Links}
use Rattle.hd_links.specs.Placed.{Placed}
use Rattle.hd_links.specs.Changes.{with_bytes}
use Rattle.hd_links.specs.Steps.{rows_of, address_at, RowsHaveAddresses}
use Rattle.hd_links.proofs.Numbers.{rows_addressed}
use Rattle.hd_links.proofs.RowChanges.{bytes_in}
use Rattle.hd_position.specs.Kept.{StandsFor, AreRowsOn, path_passed, row_on, is_held, without_hold}
use Rattle.hd_position.specs.Laws.{EndedHoldsHoldNothing, RewritingEndsHolds, RewritesAddUp}
use Rattle.hd_position.proofs.Lists.{first, rest}
use Rattle.hd_position.proofs.Splices.{AllBelow, below_more}
use Rattle.hd_position.proofs.Rising.{row_on_map}
use Rattle.hd_position.proofs.Falling.{get_below}
use Rattle.hd_position.proofs.Leaving.{passed_below}
use Rattle.hd_position.proofs.Same.{replacing_keeps}

-- ---- no hold

pub unheld_stands : EndedHoldsHoldNothing
unheld_stands types f k q F = record {
  within = F.within;
  path = F.path;
  standing = F.standing;
  last = F.last;
  parent = F.parent;
  held = refl;
  standing_level = F.standing_level;
  parent_level = F.parent_level;
  held_levels = tt;
}

-- ---- which holds end

module _ (m : Links) (f : Forest Placed) (R : RowsHaveAddresses m f) (i : ℕ) (within : i < length (rows_of f)) (path : List ℕ) (below : AllBelow (length (rows_of f)) path) where
  abbrev at_level : ℕ → Bool
  at_level l = option_eq (λ b c. b == c) (row_on (map (λ j. address_at f j) path) l) (Some (address_at f i))

  row_below : (l x : ℕ) → Some x ≡ row_on path l → x < length (rows_of f)
  row_below zero x e = cc
  row_below (suc l) x e = get_below (length (rows_of f)) path l x below (sym e)

  -- one held row
  held_one : (x l : ℕ) → Some x ≡ row_on path l → at_level l ≡ (i == x)
  held_one x l e =
      ap (λ (o : Option ℕ). option_eq (λ b c. b == c) o (Some (address_at f i))) (row_on_map (λ j. address_at f j) path l ∙ ap (option_map (λ j. address_at f j)) (sym e))
      ∙ elim (cases_eq i x) [
        | inl same ↦ eq-eqb (address_at f x) (address_at f i) (ap (address_at f) (sym same)) ∙ sym (eq-eqb i x same)
        | inr apart ↦ ne_eqb (address_at f x) (address_at f i) (λ one. apart (sym (R.once x i (row_below l x e) within one))) ∙ sym (ne_eqb i x apart)
      ]

  held_any : (rows levels : List ℕ) → AreRowsOn path levels rows → list_any at_level levels ≡ list_any (λ x. (i == x) || false) rows
  held_any [] [] e = refl
  held_any [] (l ∷ ls) e = cc
  held_any (x ∷ xs) [] e = cc
  held_any (x ∷ xs) (l ∷ ls) e = ap₂ (λ (a b : Bool). a || b) (held_one x l (ap (first None) e) ∙ or_none (i == x)) (held_any xs ls (ap rest e))
    where
      or_none : (b : Bool) → b ≡ (b || false)
      or_none true = refl
      or_none false = refl

pub rewriting_ends : RewritingEndsHolds
rewriting_ends types m f w k q H within F =
    let g : Forest Placed = with_bytes (address_at f w.number) w.bytes f in
    let path : List ℕ = path_passed types (rows_of f) q.passed in
    let below : AllBelow (length (rows_of f)) path = below_more q.passed (length (rows_of f)) (path_passed types (rows_of f) q.passed) F.within (passed_below types (rows_of f) q.passed) in
    let same : is_held k (address_at f w.number) ≡ list_any (λ n. is_rewritten (w ∷ []) n) q.held
    = ap (λ (xs : List ℕ). list_any (λ l. option_eq (λ b c. b == c) (row_on xs l) (Some (address_at f w.number))) k.held) F.path
    ∙ held_any m f (rows_addressed types m f H) w.number within path below q.held k.held F.held in
    let stays : StandsFor types g k q = replacing_keeps bytes_in types m f w.number w.bytes k q H within F in
    elim (cases_Bool (is_held k (address_at f w.number))) [
      | inl ends ↦ subst (λ x. StandsFor types g x (position_after_rewrite (w ∷ []) q)) (sym (cond-true (is_held k (address_at f w.number)) (without_hold k) k ends))
          (subst (λ (h : List ℕ). StandsFor types g (without_hold k) (record q { held = h })) (sym (cond-true (list_any (λ n. is_rewritten (w ∷ []) n) q.held) [] q.held (sym same ∙ ends))) (unheld_stands types g k q stays))
      | inr none ↦ subst (λ x. StandsFor types g x (position_after_rewrite (w ∷ []) q)) (sym (cond-false (is_held k (address_at f w.number)) (without_hold k) k none))
          (subst (λ (h : List ℕ). StandsFor types g k (record q { held = h })) (sym (cond-false (list_any (λ n. is_rewritten (w ∷ []) n) q.held) [] q.held (sym same ∙ none))) stays)
    ]

-- ---- one by one

any_parts : (t u : ℕ → Bool) (xs : List ℕ) → list_any (λ n. t n || u n) xs ≡ (list_any (λ n. t n || false) xs || list_any u xs)
any_parts t u [] = refl
any_parts t u (x ∷ xs) = ap (λ (b : Bool). (t x || u x) || b) (any_parts t u xs) ∙ regroup (t x) (u x) (list_any (λ n. t n || false) xs) (list_any u xs)
  where
    regroup : (a b c d : Bool) → ((a || b) || (c || d)) ≡ (((a || false) || c) || (b || d))
    regroup true b c d = refl
    regroup false true true d = refl
    regroup false true false d = refl
    regroup false false c d = refl

pub rewrites_add : RewritesAddUp
rewrites_add w ws q = ap (λ (h : List ℕ). record q { held = h }) (both (list_any (λ n. is_rewritten (w ∷ []) n) q.held) refl)
  where
    both : (b : Bool) → list_any (λ n. is_rewritten (w ∷ []) n) q.held ≡ b
        → cond (list_any (λ n. is_rewritten ws n) (cond b [] q.held)) [] (cond b [] q.held) ≡ cond (list_any (λ n. is_rewritten (w ∷ ws) n) q.held) [] q.held
    both true is = sym (cond-true (list_any (λ n. is_rewritten (w ∷ ws) n) q.held) [] q.held (any_parts (λ n. w.number == n) (λ n. is_rewritten ws n) q.held ∙ ap (λ (b : Bool). b || list_any (λ n. is_rewritten ws n) q.held) is))
    both false is = ap (λ (b : Bool). cond b [] q.held) (sym (any_parts (λ n. w.number == n) (λ n. is_rewritten ws n) q.held ∙ ap (λ (b : Bool). b || list_any (λ n. is_rewritten ws n) q.held) is))
