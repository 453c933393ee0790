use Rattle.std.proofs.Common.{◌≡◌, ◌+◌, ◌++◌, take, drop, true}
use Rattle.std.specs.List.{list_all}
use Rattle.hd_serve.specs.Hello.{types_bytes, type_fits}
use Rattle.hd_serve.proofs.hello.push_types.Given as goal

abbrev pub invariant-loop-place : goal.invariant-loop-place
invariant-loop-place l = record {
  bytes : l.bytes.items ++ types_bytes l.dbd.types (l.place + 1) (drop l.place l.dbd.types) ≡ l.fn.bytes.items ++ types_bytes l.dbd.types 1 l.dbd.types;
  fits : list_all type_fits (take l.place l.dbd.types) ≡ true;
}
