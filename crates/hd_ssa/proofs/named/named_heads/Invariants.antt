use Rattle.std.proofs.Common.{◌≡◌, ◌≤◌, length, map, drop, ◌++◌}
use Rattle.std.specs.Prelude.{option_map}
use Rattle.hd_dbd.specs.Views.{Setting}
use Rattle.hd_ssa.specs.Named.{named_heads}
use Rattle.hd_ssa.proofs.named.named_heads.Given as goal

-- the heads so far, with those of the texts that are left, are all
abbrev pub invariant-loop-text : goal.invariant-loop-text
invariant-loop-text l =
    let s : Setting = record { types = l.dbd.types; pcb = l.pcb } in
    record {
      same : option_map (λ ns. l.heads.items ++ ns) (named_heads s (map (λ t. t.items) (drop l.text-index l.ssas))) ≡ named_heads s (map (λ t. t.items) l.ssas);
      count : length l.heads.items ≡ l.text-index;
      room : 4 ≤ l.heads.capacity;
    }
