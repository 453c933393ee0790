use Rattle.std.proofs.Common.{◌≤◌, ℕ, List, inl, inr, take, length, sym, ap, ◌∙◌, arith}
use Rattle.hd_dbd.specs.Types.{SegmentType}
use Rattle.hd_dbd.specs.Prefixes.{prefix_length}
use Rattle.hd_prefix.specs.Fields.{delete_byte_of}
use Rattle.hd_check_pointers.proofs.ChildPointers.{forward-read, backward-read}
use Rattle.hd_check_pointers.proofs.KeyOrder.{lent-key}
use Rattle.hd_check_walk.specs.Reading.{key_front}
use Rattle.hd_check_walk.proofs.Begun.{lent-long, byte-begun, number-begun, backward-begun}
use Rattle.hd_check_walk.proofs.SegmentFacts.{twins-least, lent-own, forward-kept, names-none, childless, leaf-childless}
use Rattle.hd_check_walk.proofs.segments.seen_with.Goals as goal

pub returns : goal.returns
returns c = λ d code a n form key v of lent coded.
    let types : List SegmentType = d.types in
    let bytes : List ℕ = c.args.bytes.now in
    let own = lent-own types v a code (take n bytes) lent coded in
    let long : prefix_length types code ≤ length (take n bytes) = lent-long types v a code (take n bytes) lent coded in
    let least = twins-least types code in
    let twins = c.requires.twins.1 in
    let end = form.twins in
    let prefix = form.prefixed in
    record {
      delete_byte = ap delete_byte_of lent.stored ∙ byte-begun n bytes 1 (omega arith) ∙ sym c.delete_byte_of.ensures ∙ c.if-delete_byte_of-ne0.false;
      forward = forward-read types v a code (take n bytes) c.twin_forward_of.result lent.stored own
          (c.twin_forward_of.ensures ∙ number-begun n bytes 2 (omega arith) ∙ sym (forward-kept types code (take n bytes) (omega arith)));
      backward = backward-read types v a code (take n bytes) c.backward_in.result lent.stored own
          (c.backward_in.ensures types code form.twins ∙ backward-begun n bytes types code (omega arith));
      front = c.key_front.ensures ∙ ap key_front (lent-key types v a (take n bytes) code c.args.key.now lent coded key);
      childless = λ yes. elim (c.names_no_children.ensures yes) [
        | inl leaf ↦ leaf-childless types v a code (take n bytes) lent coded (sym form.leaf ∙ leaf)
        | inr zeros ↦ childless types v a code (take n bytes) lent coded
            (names-none d code (take n bytes) of.fit (λ i low high. byte-begun n bytes i (omega arith) ∙ zeros i (omega arith) (omega arith)))
      ];
    }
