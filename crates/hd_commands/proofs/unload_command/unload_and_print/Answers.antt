use Rattle.std.proofs.Common.{ℕ, inr}
use Rattle.std.proofs.KnownBytes.{Appends-kept}
use Rattle.hd_commands.proofs.Saying.{unload-says}
use Rattle.hd_commands.proofs.unload_command.unload_and_print.Goals as goal

pub returns-in-Err-clause-refused : goal.returns-in-Err-clause-refused
returns-in-Err-clause-refused g c =
    rw c.of_unload.ensures (unload-says {T = ℕ} c.args.dbd.now c.args.volume.now c.unload.new.volume c.in-Err.fault c.in-Err.ensures.fault c.in-Err.ensures.read)

pub returns-in_default-clause-refused : goal.returns-in_default-clause-refused
returns-in_default-clause-refused g c = inr (λ sound. let u = c.in-Ok.ensures.unloaded sound in (u.rows, u.holds))

pub returns-in-Ok-print_unloaded-clause-unloaded : goal.returns-in-Ok-print_unloaded-clause-unloaded
returns-in-Ok-print_unloaded-clause-unloaded g c = λ sound.
    let u = c.in-Ok.ensures.unloaded sound in
    record {
      segments = c.in-Ok.segments;
      unloaded = record { rows = u.rows; holds = u.holds; stream = Appends-kept _ _ _ _ u.stream c.flush.ensures.bytes; segments_are = u.segments_are };
      line = c.in-Ok-print_unloaded.ensures;
    }

pub returns-in-Err-print_unloaded-clause-refused : goal.returns-in-Err-print_unloaded-clause-refused
returns-in-Err-print_unloaded-clause-refused g c = inr (λ sound. let u = c.in-Ok.ensures.unloaded sound in (u.rows, u.holds))
