use Rattle.std.proofs.Common.{◌≡◌, ℕ, ◌*◌, ◌++◌, drop, take, length, refl, sym, ap, ◌∙◌, arith}
use Rattle.std.proofs.lemmas.List.{take_at, take-append-drop}
use Rattle.hd_stores.proofs.RunLemmas.{run-filled}
use Rattle.hd_stores.proofs.run.fill.Goals as goal

pub returns-clause-run : goal.returns-clause-run
returns-clause-run g c sound =
    let size : ℕ = g.S.BlockStore.size c.args.store.now in
    let end : ℕ = c.args.count * c.block_size.result in
    let whole : end ≡ c.args.count * size = ap (λ (s : ℕ). c.args.count * s) c.block_size.ensures.value in
    let new = c.read_front.new.bytes in
    let len = c.read_front.ensures.len in
    let room = c.deref_mut.ensures.len in
    let items : take c.args.run.now.bytes.len (new ++ drop (length new) c.args.run.now.bytes.items) ≡ new = take_at new _ _ (omega arith) in
    run-filled size c.args.n c.args.count end (g.S.BlockStore.contents c.args.store.now) (take end new) (drop end new) _
    (c.requires.there sound) whole (c.in_ok-read_front.ensures.value sound) (items ∙ sym (take-append-drop end new)) refl refl
