use Rattle.std.proofs.Common.{rules, ◌≡◌, ◌∷◌, [], ◌++◌, ℕ, List, refl, subst, arith}
use Rattle.hd_dbd.specs.Hierarchy.{Database}
use Rattle.hd_index_blocks.specs.Fields.{entry_in}
use Rattle.hd_check_index.specs.DataBlocks.{FirstNameRoots, AreFirstNoted}
use Rattle.hd_check_index.proofs.DataBlocks.{judged-entry, root-more, noted-more}
use Rattle.hd_check_index.proofs.wrong_entries.name_on.Goals as goal

pub loop-next-init : goal.loop-next-init
loop-next-init c = record { right = λ v n of are is begins h. h; named = λ before h. h }

pub loop-next-preserved : goal.loop-next-preserved
loop-next-preserved c =
    let d : Database = c.args.dbd.now in
    let k : ℕ = c.args.block.now.key_length in
    let b : List ℕ = c.args.block.now.bytes.now in
    let i : ℕ = c.loop-next.next in
    let pushed : c.push.new.self.items ≡ c.loop-next.named.items ++ (c.address-address.result ∷ []) = search rules in
    record {
      right = λ v n of are is begins h.
          root-more d v k i b (c.loop-next.invariant.right v n of are is begins h)
          (judged-entry d v c.key-key.result.now c.address-address.result (entry_in k b i) c.key-key.ensures.value c.address-address.ensures (c.if-not-names_root_in.ensures refl v n of are is begins));
      named = λ before h. noted-more before c.loop-next.named.items c.push.new.self.items k i c.address-address.result b pushed c.address-address.ensures (c.loop-next.invariant.named before h);
    }

pub returns-clause-right : goal.returns-clause-right
returns-clause-right c = λ v n of are is begins h.
    let d : Database = c.args.dbd.now in
    let last : c.loop-next.next ≡ c.count-count.result = (let low = c.requires.low in let high = c.loop-next-test.false in let most = c.loop-next.auto.next-end in let count = c.count-count.ensures.value in omega arith) in
    subst (FirstNameRoots d v c.args.block.now.key_length c.args.block.now.bytes.now) last (c.loop-next.invariant.right v n of are is begins h)

pub returns-clause-named : goal.returns-clause-named
returns-clause-named c = λ before h.
    let last : c.loop-next.next ≡ c.count-count.result = (let low = c.requires.low in let high = c.loop-next-test.false in let most = c.loop-next.auto.next-end in let count = c.count-count.ensures.value in omega arith) in
    subst (λ (i : ℕ). AreFirstNoted before c.args.block.now.key_length c.args.block.now.bytes.now i c.loop-next.named.items) last (c.loop-next.invariant.named before h)
