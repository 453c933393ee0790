use Rattle.std.proofs.Common.{◌++◌, ℕ, List}
use Rattle.hd_explain.specs.declared.entry.Entry.{Entry}
use Rattle.hd_explain.specs.declared.volumes.TheConstants.{VOLUME_FAULTS}
use Rattle.hd_explain.specs.declared.sources.TheConstants.{SOURCE_FAULTS}
use Rattle.hd_explain.specs.declared.decks.TheConstants.{DECK_FAULTS, STREAM_FAULTS}
use Rattle.hd_explain.specs.declared.calls.TheConstants.{STATUS_CODES, REFUSALS}
use Rattle.hd_explain.specs.declared.exits.TheConstants.{EXIT_STATUSES}
use Rattle.hd_explain.specs.declared.lines.TheConstants.{LINES}
use Rattle.hd_explain.specs.Entries.{plains, entry_of}
use Rattle.hd_explain.specs.Tables.{all_entries}
use Rattle.hd_explain.proofs.Finding.{searched}
use Rattle.hd_explain.proofs.explaining.explain.Goals as goal

pub returns : goal.returns
unfolding all_entries entry_of plains
returns c =
    let word = c.args.word.now in
    let one : List (Entry (List ℕ)) = plains VOLUME_FAULTS.now (λ text. text.now) in
    let two : List (Entry (List ℕ)) = plains SOURCE_FAULTS.now (λ text. text.now) in
    let three : List (Entry (List ℕ)) = plains DECK_FAULTS.now (λ text. text.now) in
    let four : List (Entry (List ℕ)) = plains STREAM_FAULTS.now (λ text. text.now) in
    let five : List (Entry (List ℕ)) = plains STATUS_CODES.now (λ text. text.now) in
    let six : List (Entry (List ℕ)) = plains REFUSALS.now (λ text. text.now) in
    let seven : List (Entry (List ℕ)) = plains EXIT_STATUSES.now (λ text. text.now) in
    let eight : List (Entry (List ℕ)) = plains LINES.now (λ text. text.now) in
    searched word (one ++ two ++ three ++ four ++ five ++ six ++ seven) eight _ _
    (searched word (one ++ two ++ three ++ four ++ five ++ six) seven _ _
    (searched word (one ++ two ++ three ++ four ++ five) six _ _
    (searched word (one ++ two ++ three ++ four) five _ _
    (searched word (one ++ two ++ three) four _ _
    (searched word (one ++ two) three _ _
    (searched word one two _ _ c.entry_or-found.ensures c.entry_or-found-2.ensures)
    c.entry_or-found-3.ensures)
    c.entry_or-found-4.ensures)
    c.entry_or-found-5.ensures)
    c.entry_or-found-6.ensures)
    c.entry_or-found-7.ensures)
    c.entry_or.ensures
