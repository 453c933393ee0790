use Rattle.std.proofs.Common.{◌≡◌}
use Rattle.hd_serve.specs.Serves.{IsServiceFor}
use Rattle.hd_program.proofs.serve_command.serve_sessions.Given as goal

-- the service is of the program still, and the store of the database
abbrev pub invariant-sessions : goal.invariant-sessions
invariant-sessions g l = record {
  size : l.store.size ≡ l.dbd.block_size;
  made_for : IsServiceFor l.dbd l.psb.pcbs l.service;
}
