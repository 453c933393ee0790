use Rattle.std.proofs.Common.{◌+◌, ◌-◌, ◌++◌, ◌∙◌, [], take, drop, ap, sym, arith, length-take}
use Rattle.std.proofs.KnownBytes.{append_known-moved}
use Rattle.hd_output.proofs.Held.{held-split, held-all}
use Rattle.hd_output.proofs.pieces.Pieces.hand_on.Goals as goal

pub returns-then-self-clause-kept : goal.returns-then-self-clause-kept
returns-then-self-clause-kept g c =
    let s = c.self.inside.start in
    let e = c.self.inside.end in
    let n = c.write_out-written.result.0 in
    let xs = c.self.inside.room.items in
    let split = held-all s n e xs c.if-self.true ∙ ap (λ l. take n (take (e - s) (drop s l)) ++ []) (sym c.deref.ensures.value) in
    rw (← c.self.view_is) (append_known-moved _ _ _ _ _ c.write_out-written.ensures.bytes split)

pub returns-else-self-clause-kept : goal.returns-else-self-clause-kept
returns-else-self-clause-kept g c =
    let s = c.self.inside.start in
    let e = c.self.inside.end in
    let n = c.write_out-written.result.0 in
    let xs = c.self.inside.room.items in
    let most = length-take (e - s) (drop s c.deref.result.now) in
    let bound = c.write_out-written.ensures.bound in
    let order = c.self.invariant.1 in
    let split = held-split s n e xs (omega arith) ∙ ap (λ l. take n (take (e - s) (drop s l)) ++ drop (s + n) (take e xs)) (sym c.deref.ensures.value) in
    rw (← c.self.view_is) (append_known-moved _ _ _ _ _ c.write_out-written.ensures.bytes split)
