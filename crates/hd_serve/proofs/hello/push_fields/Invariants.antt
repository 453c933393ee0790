use Rattle.std.proofs.Common.{◌≡◌, ◌++◌, take, true}
use Rattle.std.specs.Prelude.{flat_map}
use Rattle.std.specs.List.{list_all}
use Rattle.hd_serve.specs.Hello.{field_bytes, field_fits}
use Rattle.hd_serve.proofs.hello.push_fields.Given as goal

abbrev pub invariant-loop-field : goal.invariant-loop-field
invariant-loop-field l = record {
  bytes : l.bytes.items ≡ l.fn.bytes.items ++ flat_map field_bytes (take l.field-index l.fields);
  fits : list_all field_fits (take l.field-index l.fields) ≡ true;
}
