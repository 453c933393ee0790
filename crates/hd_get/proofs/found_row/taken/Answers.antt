use Rattle.std.proofs.Common.{◌≡◌, ℕ, zero, suc, ◌+◌, ◌-◌, ◌<◌, ◌≤◌, List, [], ◌∷◌, ◌++◌, length, take, true, false, Some, None, sym, ap, ap₂, subst, ◌∙◌, arith, slice_index_or, inl, inr}
use Rattle.std.specs.Prelude.{cond}
use Rattle.std.specs.List.{cons_option}
use Rattle.std.proofs.lemmas.Bool.{cases_lt}
use Rattle.std.proofs.lemmas.Grind.{take_at_read}
use Rattle.std.proofs.lemmas.List.{append-nil}
use Rattle.hd_dbd.specs.Types.{SegmentType}
use Rattle.hd_dbd.specs.Hierarchy.{level_of}
use Rattle.hd_calls.specs.Ssas.{Ssa}
use Rattle.hd_get.proofs.TakenLevels.{levels_among, among_more, among_few, few_ssas}
use Rattle.hd_get.proofs.found_row.taken.Goals as goal
use Rattle.hd_get.proofs.found_row.taken.Goals.{then-commands, else-commands}

-- the levels of one argument more
one_more : (types : List SegmentType) (ssas : List Ssa) (place : ℕ) (a : Ssa) → place < length ssas → a ≡ slice_index_or ssas place a
    → levels_among types (take (place + 1) ssas) ≡ levels_among types (take place ssas) ++ cons_option (cond a.commands.path (Some (level_of types a.code)) None) []
one_more types ssas place a within is =
    ap (levels_among types) ((take_at_read ssas place a within).1 ∙ ap (λ (x : Ssa). take place ssas ++ x ∷ []) (sym is)) ∙ among_more types (take place ssas) a

-- of so many arguments there are no more levels
few_among : (types : List SegmentType) (ssas : List Ssa) (place : ℕ) → length (levels_among types (take place ssas)) ≤ place
few_among types ssas place =
    let a : length (levels_among types (take place ssas)) ≤ length (take place ssas) = among_few types (take place ssas) in
    let b : length (take place ssas) ≤ place = takes place ssas in omega arith
  where
    takes : (k : ℕ) (xs : List Ssa) → length (take k xs) ≤ k
    takes zero xs = omega arith
    takes (suc k) [] = omega arith
    takes (suc k) (x ∷ xs) = (let r : length (take k xs) ≤ k = takes k xs in omega arith)

-- there is room for one more
room : (types : List SegmentType) (ssas : List Ssa) (place most : ℕ) → length ssas ≤ most → place < length ssas - 1 → length (levels_among types (take place ssas)) < most
room types ssas place most few less = (let a : length (levels_among types (take place ssas)) ≤ place = few_among types ssas place in omega arith)

pub loop-place-init : goal.loop-place-init
loop-place-init c = record { levels = c.new-levels.ensures; few = λ some. absurd (omega arith) }

pub loop-place-preserved : goal.loop-place-preserved
loop-place-preserved c =
    let types = c.args.dbd.now.types in
    let ssas : List Ssa = c.args.ssas.now in
    let place : ℕ = c.loop-place.place in
    let a : Ssa = c.index-ssas-place.result in
    let less : place < c.saturating_sub-place-end.result = c.loop-place-test.true in
    let end : c.saturating_sub-place-end.result ≡ length ssas - 1 = c.saturating_sub-place-end.ensures in
    let more = one_more types ssas place a (omega arith) c.index-ssas-place.is in
    let few : length ssas ≤ 15 = few_ssas c.args.dbd.now.block_size c.args.dbd.now.frspc types c.level-level.ensures.fit ssas c.requires.descend in
    record {
      levels = elim c.if-commands.branch [
        | then-commands w ↦
            (let path : a.commands.path ≡ true = ap (λ k. k.path) (sym c.commands.ensures) ∙ w.if-commands.true in
            w.levels-is
            ∙ w.push.ensures (subst (λ (xs : List ℕ). length xs < 15) (sym c.loop-place.invariant.levels) (room types ssas place 15 few (omega arith)))
            ∙ ap₂ (λ (xs : List ℕ) l. xs ++ l ∷ []) c.loop-place.invariant.levels (c.level-level.ensures.level ∙ ap (level_of types) c.code.ensures)
            ∙ ap (λ b. levels_among types (take place ssas) ++ cons_option (cond b (Some (level_of types a.code)) None) []) (sym path)
            ∙ sym more)
        | else-commands w ↦
            (let path : a.commands.path ≡ false = ap (λ k. k.path) (sym c.commands.ensures) ∙ w.if-commands.false in
            w.levels-is ∙ c.loop-place.invariant.levels
            ∙ sym (append-nil (levels_among types (take place ssas)))
            ∙ ap (λ b. levels_among types (take place ssas) ++ cons_option (cond b (Some (level_of types a.code)) None) []) (sym path)
            ∙ sym more)
      ];
      few = λ some. few;
    }

pub returns : goal.returns
returns c =
    let types = c.args.dbd.now.types in
    let ssas : List Ssa = c.args.ssas.now in
    let least : c.loop-place.place ≤ c.saturating_sub-place-end.result = c.loop-place.auto.place-end in
    let most : c.saturating_sub-place-end.result ≤ c.loop-place.place = omega (arith, c.loop-place-test.false) in
    let end : c.saturating_sub-place-end.result ≡ length ssas - 1 = c.saturating_sub-place-end.ensures in
    let all : c.loop-place.place ≡ length ssas - 1 = omega arith in
    let is : c.loop-place.levels ≡ levels_among types (take (length ssas - 1) ssas) = c.loop-place.invariant.levels ∙ ap (λ n. levels_among types (take n ssas)) all in
    let few : length (levels_among types (take (length ssas - 1) ssas)) ≤ length ssas - 1 = few_among types ssas (length ssas - 1) in
    let short : length (levels_among types (take (length ssas - 1) ssas)) < 15 = elim (cases_lt 0 c.loop-place.place) [
      | inl some ↦ (let z : length ssas ≤ 15 = c.loop-place.invariant.few some in omega arith)
      | inr none ↦ omega arith
    ] in
    c.push-2.ensures (subst (λ (xs : List ℕ). length xs < 15) (sym is) short) ∙ ap₂ (λ (xs : List ℕ) l. xs ++ l ∷ []) is c.level.ensures.value
