use Rattle.std.proofs.Common.{◌≡◌, ℕ, ◌-◌, List, true, false, Option, Some, None, refl, ap, sym, ◌∙◌, inl, inr}
use Rattle.std.specs.Prelude.{◌==◌, not, cond, slice_get, option_map, unwrap_or}
use Rattle.std.specs.Option.{option_map_or, option_eq}
use Rattle.std.proofs.lemmas.Bool.{cases_Bool, cond-true, cond-false, false≢true}
use Rattle.std.proofs.lemmas.Option.{slice_get-map}
use Rattle.hd_dbd.specs.Hierarchy.{level_of}
use Rattle.hd_links.specs.Placed.{Placed}
use Rattle.hd_links.specs.LastRows.{last_on}
use Rattle.hd_update.specs.Loading.{code_on}
use Rattle.hd_update.proofs.load_rule.last_twin.Goals as goal

-- a row of another type is no twin
other_type : (o : Option Placed) (code : ℕ) → not (option_eq (λ a b. a == b) (option_map (λ (p : Placed). p.segment.code) o) (Some code)) ≡ true
    → 0 ≡ option_map_or (λ (q : Placed). cond (q.segment.code == code) q.address 0) o 0
other_type None code e = refl
other_type (Some q) code e = elim (cases_Bool (q.segment.code == code)) [
  | inl same ↦ absurd (false≢true (sym (ap not same) ∙ e))
  | inr other ↦ sym (cond-false (q.segment.code == code) q.address 0 other)
]

-- and one of the same is
same_type : (o : Option Placed) (code : ℕ) → not (option_eq (λ a b. a == b) (option_map (λ (p : Placed). p.segment.code) o) (Some code)) ≡ false
    → unwrap_or (option_map (λ (p : Placed). p.address) o) 0 ≡ option_map_or (λ (q : Placed). cond (q.segment.code == code) q.address 0) o 0
same_type None code e = refl
same_type (Some q) code e = elim (cases_Bool (q.segment.code == code)) [
  | inl same ↦ sym (cond-true (q.segment.code == code) q.address 0 same)
  | inr other ↦ absurd (false≢true (sym e ∙ ap not other))
]

pub returns-then-ne-clause-value : goal.returns-then-ne-clause-value
returns-then-ne-clause-value g c f L =
    let d = c.args.dbd.now in
    let place : c.saturating_sub-place.result ≡ level_of d.types c.args.code - 1 = c.saturating_sub-place.ensures ∙ ap (λ (n : ℕ). n - 1) c.level.ensures.level in
    other_type (slice_get (last_on f) (level_of d.types c.args.code - 1)) c.args.code
    (sym (ap (λ (o : Option ℕ). not (option_eq (λ a b. a == b) o (Some c.args.code))) (c.in_ok-there.ensures.value f L ∙ ap (code_on (last_on f)) place)) ∙ sym c.ne.ensures ∙ c.if-ne.true)

pub returns-clause-value : goal.returns-clause-value
returns-clause-value g c f L =
    let d = c.args.dbd.now in
    let n : ℕ = level_of d.types c.args.code - 1 in
    let place : c.saturating_sub-place.result ≡ n = c.saturating_sub-place.ensures ∙ ap (λ (n : ℕ). n - 1) c.level.ensures.level in
    c.unwrap_or.ensures
    ∙ ap (λ (o : Option ℕ). unwrap_or o 0)
    (c.address_on.ensures ∙ ap (slice_get c.args.path.now) place ∙ ap (λ (xs : List ℕ). slice_get xs n) L.is ∙ slice_get-map (λ (p : Placed). p.address) (last_on f) n)
    ∙ same_type (slice_get (last_on f) n) c.args.code
    (sym (ap (λ (o : Option ℕ). not (option_eq (λ a b. a == b) o (Some c.args.code))) (c.in_ok-there.ensures.value f L ∙ ap (code_on (last_on f)) place)) ∙ sym c.ne.ensures ∙ c.if-ne.false)
