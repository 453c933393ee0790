use Rattle.std.proofs.Common.{◌≡◌, ◌+◌, ◌≤◌, length, map, drop, ◌++◌, None}
use Rattle.std.specs.Prelude.{option_map}
use Rattle.hd_dbd.specs.Views.{Setting}
use Rattle.hd_ssa.specs.AtOnce.{read_down}
use Rattle.hd_ssa.proofs.at_once.read_down.Given as goal

-- the arguments so far, with those of the texts that are left, are all, and there is room for them
abbrev pub invariant-loop-text : goal.invariant-loop-text
invariant-loop-text l =
    let s : Setting = record { types = l.dbd.types; pcb = l.pcb } in
    record {
      same : option_map (λ more. l.ssas.items ++ more) (read_down s l.above (map (λ t. t.items) (drop l.text-index l.texts))) ≡ read_down s None (map (λ t. t.items) l.texts);
      room : length l.ssas.items + length l.texts ≤ l.ssas.capacity + l.text-index;
    }
