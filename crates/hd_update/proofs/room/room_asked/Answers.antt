use Rattle.std.proofs.Common.{◌≡◌, ℕ, ◌+◌, ◌≤◌, List, length, drop, true, sym, ap, subst, ◌∙◌, arith}
use Rattle.std.specs.Prelude.{◌*◌, slice_index_or}
use Rattle.hd_dbd.specs.Rows.{row_fits}
use Rattle.hd_dbd.specs.Prefixes.{size_with}
use Rattle.hd_update.specs.Replacing.{part_for}
use Rattle.hd_calls.specs.Moves.{Rewrite, rewritten}
use Rattle.hd_calls.specs.Runs.{rows_stored, stored_sizes}
use Rattle.hd_links.specs.Steps.{rows_of}
use Rattle.hd_update.specs.declared.rewrites.NewBytes.{NewBytes}
use Rattle.hd_update.proofs.Rewritten.{next_of, none_left, in_area}
use Rattle.hd_update.proofs.RewriteRooms.{asked_long, asked_short}
use Rattle.hd_update.proofs.room.room_asked.Goals as goal
use Rattle.hd_update.proofs.room.room_asked.Goals.{then-row, else-row}

abbrev none : NewBytes
none = record { address = 0; code = 0; had = 0; start = 0; length = 0 }

pub row_size-size-requires : goal.row_size-size-requires
row_size-size-requires c =
    let n : NewBytes = slice_index_or c.args.news.now c.loop-place.place none in
    let A = in_area c.args.dbd.now.types c.args.area.now c.args.news.now c.loop-place.place none c.requires.fit c.loop-place-test.true in
    record { fits = subst (λ (b : List ℕ). row_fits c.args.dbd.now.types (record { code = n.code; bytes = b }) ≡ true) (sym (c.part_for.ensures A.within)) A.fits }

pub loop-place-preserved : goal.loop-place-preserved
loop-place-preserved c =
    let types = c.args.dbd.now.types in
    let area : List ℕ = c.args.area.now in
    let place : ℕ = c.loop-place.place in
    let n : NewBytes = slice_index_or c.args.news.now place none in
    let A = in_area types area c.args.news.now place none c.requires.fit c.loop-place-test.true in
    let few : c.loop-place.count ≤ place = c.loop-place.invariant.few in
    let small : c.loop-place.total ≤ place * 65535 = c.loop-place.invariant.small in
    let one : c.row_size-size.result ≤ 65535 = c.row_size-size.ensures.small in
    elim c.if-row.branch [
      | then-row w ↦ record {
        few = (let is = w.count-is in omega arith);
        small = (let is = w.total-is in omega arith);
        left = λ f ws are.
            (let N = next_of types f area c.args.news.now ws place none are c.loop-place-test.true in
            let L = asked_long types f area n N.rewrite (drop (place + 1) ws) N.of w.if-row.true in
            let before = c.loop-place.invariant.left f ws are in
            let size : c.row_size-size.result ≡ size_with types n.code (length (part_for area n)) = c.row_size-size.ensures.value ∙ ap (λ (b : List ℕ). size_with types n.code (length b)) (c.part_for.ensures A.within) in
            let many = ap (λ (xs : List Rewrite). length (rows_stored (rows_of f) (rewritten xs))) N.left ∙ L.many in
            let large = ap (λ (xs : List Rewrite). stored_sizes types (rows_stored (rows_of f) (rewritten xs))) N.left ∙ L.large in (
              (let is = w.count-is in let b = before.0 in omega arith),
              (let is = w.total-is in let b = before.1 in omega arith),
            ));
      }
      | else-row w ↦ record {
        few = (let is = w.count-is in omega arith);
        small = (let is = w.total-is in omega arith);
        left = λ f ws are.
            (let N = next_of types f area c.args.news.now ws place none are c.loop-place-test.true in
            let same = ap (λ (xs : List Rewrite). rows_stored (rows_of f) (rewritten xs)) N.left ∙ asked_short types f area n N.rewrite (drop (place + 1) ws) N.of w.if-row.false in
            let before = c.loop-place.invariant.left f ws are in
            let many = ap (λ xs. length xs) same in
            let large = ap (stored_sizes types) same in (
              (let is = w.count-is in let b = before.0 in omega arith),
              (let is = w.total-is in let b = before.1 in omega arith),
            ));
      }
    ]

pub returns : goal.returns
returns c f ws are =
    let N = none_left c.args.dbd.now.types f c.args.area.now c.args.news.now ws c.loop-place.place are c.loop-place-test.false in
    let before = c.loop-place.invariant.left f ws are in
    let many = ap (λ (xs : List Rewrite). length (rows_stored (rows_of f) (rewritten xs))) N.0 in
    let large = ap (λ (xs : List Rewrite). stored_sizes c.args.dbd.now.types (rows_stored (rows_of f) (rewritten xs))) N.0 in (
      (let b = before.0 in omega arith),
      (let b = before.1 in omega arith),
    )
