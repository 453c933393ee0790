use Rattle.std.proofs.Common.{◌≡◌, IsTrue, length, subst, sym}
use Rattle.hd_bytes.specs.Blocks.{HasBlock}
use Rattle.hd_stores.proofs.RunLemmas.{written-kept, forgotten}
use Rattle.hd_stores.proofs.ahead.ReadAheadBlockStore.write.Goals as goal

pub invariant_of-self : goal.invariant_of-self
invariant_of-self g c =
    let e = c.write.ensures in
    let k = forgotten c.self.invariant c.forget.ensures.other in
    let There : g.row.S.Denot → Type 0 = λ s. IsTrue (g.S.BlockStore.is_sound s) → HasBlock (g.S.BlockStore.size s) (g.S.BlockStore.contents s) c.args.n in
    let Whole : g.row.S.Denot → Type 0 = λ s. length c.args.bytes.now ≡ g.S.BlockStore.size s in
    record {
      fits = rw e.size k.fits;
      is_run = λ sound. rw e.size (written-kept c.args.bytes.now c.write.result e.value e.refusal e.sound c.forget.ensures.gone
          (subst There (sym c.self.view_is) c.requires.there) (subst Whole (sym c.self.view_is) c.requires.whole) k.is_run sound);
    }
