use Rattle.std.proofs.Common.{◌∙◌, sym, ap, Option, Bor, List, ℕ}
use Rattle.std.specs.Option.{option_or}
use Rattle.hd_explain.specs.declared.entry.Entry.{Entry}
use Rattle.hd_explain.specs.Entries.{plain_found, plains, entry_of}
use Rattle.hd_explain.proofs.Finding.{plain-found}
use Rattle.hd_explain.proofs.explaining.entry_or.Goals as goal

pub returns-in-None : goal.returns-in-None
returns-in-None c =
    let own = entry_of c.args.word.now (plains c.args.entries.now (λ text. text.now)) in
    plain-found (λ entry. entry.now) (λ text. text.now) c.args.word.now c.args.entries.now c.entry_in.result c.entry_in.ensures
    ∙ sym (ap (λ (found : Option (Bor (Entry (Bor (List ℕ))))). option_or (plain_found found) own) c.in-None.is)
