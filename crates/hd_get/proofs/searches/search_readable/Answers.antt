use Rattle.hd_volume.proofs.JoinLemmas.{if-ok-map}
use Rattle.hd_links.specs.Steps.{rows_of}
use Rattle.hd_get.proofs.Unread.{all_above}
use Rattle.hd_get.proofs.searches.search_readable.Goals as goal

pub find-requires-clause-there : goal.find-requires-clause-there
find-requires-clause-there g c now =
    let T = c.requires.there now in
    (T.0, T.1, T.2, record { sound = now; leads = T.3; above = λ within. all_above c.args.dbd.now.types (rows_of T.0) T.1 })

pub returns-clause-value : goal.returns-clause-value
returns-clause-value g c = if-ok-map c.find.result (λ r finds f n end sound leads.
    finds f n end (record { sound = sound; leads = leads; above = λ within. all_above c.args.dbd.now.types (rows_of f) n })) c.find.ensures.found
