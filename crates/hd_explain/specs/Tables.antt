-- The tables of the product, one behind the other.
use Rattle.std.specs.Prelude.{ℕ, List, ◌++◌}
use Rattle.hd_explain.specs.declared.entry.Entry.{Entry}
use Rattle.hd_explain.specs.declared.volumes.TheConstants.{VOLUME_FAULTS}
use Rattle.hd_explain.specs.declared.sources.TheConstants.{SOURCE_FAULTS}
use Rattle.hd_explain.specs.declared.decks.TheConstants.{DECK_FAULTS, STREAM_FAULTS}
use Rattle.hd_explain.specs.declared.calls.TheConstants.{STATUS_CODES, REFUSALS}
use Rattle.hd_explain.specs.declared.exits.TheConstants.{EXIT_STATUSES}
use Rattle.hd_explain.specs.declared.lines.TheConstants.{LINES}
use Rattle.hd_explain.specs.Entries.{plains}

-- all entries, in the order of the tables
unfoldable pub all_entries : List (Entry (List ℕ))
all_entries =
    plains VOLUME_FAULTS.now (λ text. text.now)
    ++ plains SOURCE_FAULTS.now (λ text. text.now)
    ++ plains DECK_FAULTS.now (λ text. text.now)
    ++ plains STREAM_FAULTS.now (λ text. text.now)
    ++ plains STATUS_CODES.now (λ text. text.now)
    ++ plains REFUSALS.now (λ text. text.now)
    ++ plains EXIT_STATUSES.now (λ text. text.now)
    ++ plains LINES.now (λ text. text.now)
