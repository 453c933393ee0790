use Rattle.std.proofs.Common.{inr, rules}
use Rattle.hd_commands.specs.declared.refusal.Refusal.TheVariants.{Device}
use Rattle.hd_commands.proofs.Saying.{reload-says}
use Rattle.hd_commands.proofs.reload_command.reload_store.Goals as goal

pub returns-in-Err-clause-refused : goal.returns-in-Err-clause-refused
returns-in-Err-clause-refused g c = λ other. record {
  refusal = c.of_reload.result;
  named = search rules;
  says = rw c.of_reload.ensures (reload-says c.args.dbd.now c.args.stream.now c.args.largest (g.S.BlockStore.is_sound c.args.store) (g.S.BlockStore.contents c.in-Err.store) _ _ c.in-Err.fault c.in-Err.ensures.fault c.in-Err.ensures.given.counts);
  status = search rules;
  line = search rules;
}

pub returns-in-Err-print_reloaded-clause-refused : goal.returns-in-Err-print_reloaded-clause-refused
returns-in-Err-print_reloaded-clause-refused g c = λ other. record {
  refusal = Device;
  named = c.refuse.ensures.named;
  says = inr (λ sound. (c.in-Ok.loaded.segments, c.in-Ok.loaded.blocks, c.in-Ok.ensures.reloaded sound));
  status = c.refuse.ensures.status;
  line = c.refuse.ensures.line;
}
