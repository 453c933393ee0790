use Rattle.std.proofs.Common.{◌≡◌, ◌<◌, ℕ, List, length, get_or, w32, rules, sym, ap, ◌∙◌}
use Rattle.std.specs.Int.{to_be_bytes, from_be_bytes}
use Rattle.std.proofs.lemmas.Nat.{be_bytes_4}
use Rattle.hd_calls.specs.Functions.{function_of}
use Rattle.hd_session.proofs.functions.function_of.Goals as goal

-- four bytes with the number of a function are that function's
named : (text : List ℕ) (n k : ℕ) → length text ≡ 4 → ((i : ℕ) → get_or text i 0 < 256) → n ≡ from_be_bytes w32 text → n ≡ k → function_of (to_be_bytes w32 k) ≡ function_of text
named text n k four low is same = ap function_of (be_bytes_4 text k four low (sym same ∙ is))

pub returns-in-1196761120 : goal.returns-in-1196761120
returns-in-1196761120 c = named c.args.text c.from_be_bytes.result 1196761120 (search rules) (search rules) c.from_be_bytes.ensures c.in-1196761120.is

pub returns-in-1196302368 : goal.returns-in-1196302368
returns-in-1196302368 c = named c.args.text c.from_be_bytes.result 1196302368 (search rules) (search rules) c.from_be_bytes.ensures c.in-1196302368.is

pub returns-in-1196314656 : goal.returns-in-1196314656
returns-in-1196314656 c = named c.args.text c.from_be_bytes.result 1196314656 (search rules) (search rules) c.from_be_bytes.ensures c.in-1196314656.is

pub returns-in-1195922720 : goal.returns-in-1195922720
returns-in-1195922720 c = named c.args.text c.from_be_bytes.result 1195922720 (search rules) (search rules) c.from_be_bytes.ensures c.in-1195922720.is

pub returns-in-1195920928 : goal.returns-in-1195920928
returns-in-1195920928 c = named c.args.text c.from_be_bytes.result 1195920928 (search rules) (search rules) c.from_be_bytes.ensures c.in-1195920928.is

pub returns-in-1195920976 : goal.returns-in-1195920976
returns-in-1195920976 c = named c.args.text c.from_be_bytes.result 1195920976 (search rules) (search rules) c.from_be_bytes.ensures c.in-1195920976.is

pub returns-in-1230197332 : goal.returns-in-1230197332
returns-in-1230197332 c = named c.args.text c.from_be_bytes.result 1230197332 (search rules) (search rules) c.from_be_bytes.ensures c.in-1230197332.is

pub returns-in-1380274252 : goal.returns-in-1380274252
returns-in-1380274252 c = named c.args.text c.from_be_bytes.result 1380274252 (search rules) (search rules) c.from_be_bytes.ensures c.in-1380274252.is

pub returns-in-1145849172 : goal.returns-in-1145849172
returns-in-1145849172 c = named c.args.text c.from_be_bytes.result 1145849172 (search rules) (search rules) c.from_be_bytes.ensures c.in-1145849172.is
