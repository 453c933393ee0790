use Rattle.std.proofs.Common.{◌≡◌, ◌++◌, take, true}
use Rattle.std.specs.Prelude.{flat_map}
use Rattle.std.specs.List.{list_all}
use Rattle.hd_serve.specs.Hello.{pcb_bytes, pcb_fits}
use Rattle.hd_serve.proofs.hello.push_pcbs.Given as goal

abbrev pub invariant-loop-pcb : goal.invariant-loop-pcb
invariant-loop-pcb l = record {
  bytes : l.bytes.items ≡ l.fn.bytes.items ++ flat_map (pcb_bytes l.dbd) (take l.pcb-index l.pcbs);
  fits : list_all (pcb_fits l.dbd) (take l.pcb-index l.pcbs) ≡ true;
}
