use Rattle.hd_stores.proofs.RunLemmas.{grown-kept}
use Rattle.hd_stores.proofs.ahead.ReadAheadBlockStore.grow.Goals as goal

pub invariant_of-self : goal.invariant_of-self
invariant_of-self g c =
    let e = c.grow.ensures in
    record {
      fits = rw e.size c.self.invariant.fits;
      is_run = λ sound. rw e.size (grown-kept _ c.args.blocks c.grow.result e.value e.kept e.refusal e.sound c.self.invariant.is_run sound);
    }
