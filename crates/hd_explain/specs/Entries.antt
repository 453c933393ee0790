-- The entries of the table as plain texts, and how they are written.
use Rattle.std.specs.Prelude.{ℕ, List, ◌++◌, Option, option_map, find, map, drop, length, codes}
use Rattle.std.specs.Str.{str_eq_ignore_ascii_case}
use Rattle.std.specs.Borrow.{Bor}
use Rattle.hd_explain.specs.declared.entry.Entry.{Entry}
use Rattle.hd_explain.specs.declared.entry.Kind.{Kind}
use Rattle.hd_explain.specs.declared.entry.Kind.TheVariants.{VolumeFault, SourceFault, DeckFault, StreamFault, Status, Refusal, ExitStatus, Line}

-- an entry with its texts as they are read
abbrev pub plain : {T : Type 0} → Entry T → (T → List ℕ) → Entry (List ℕ)
plain entry read = record { word = read entry.word; kind = entry.kind; summary = read entry.summary; text = read entry.text }

-- entries with their texts as they are read
unfoldable pub plains : {T : Type 0} → List (Entry T) → (T → List ℕ) → List (Entry (List ℕ))
plains entries read = map (λ entry. plain entry read) entries

-- the first entry whose word is this one, but for case
unfoldable pub entry_of : List ℕ → List (Entry (List ℕ)) → Option (Entry (List ℕ))
entry_of word entries = find (λ entry. str_eq_ignore_ascii_case entry.word word) entries

-- an entry of the table that was found, with its texts as they are read
abbrev pub plain_found : Option (Bor (Entry (Bor (List ℕ)))) → Option (Entry (List ℕ))
plain_found found = option_map (λ entry. plain entry.now (λ text. text.now)) found

-- what a word is
abbrev pub name_of : Kind → List ℕ
name_of VolumeFault = codes "a fault of a volume"
name_of SourceFault = codes "a fault of a DBD or PSB source"
name_of DeckFault = codes "a fault of a deck"
name_of StreamFault = codes "a fault of an unload stream"
name_of Status = codes "a status code"
name_of Refusal = codes "a refusal"
name_of ExitStatus = codes "an exit status"
name_of Line = codes "a line of hd"

-- `GE, a status code: no such segment`, and behind it the text
abbrev pub entry_text : Entry (List ℕ) → List ℕ
entry_text entry =
    (entry.word ++ codes ", " ++ name_of entry.kind) ++ (codes ": " ++ entry.summary ++ codes "\n") ++ (entry.text ++ codes "\n")

-- a word in eight places, and its summary
abbrev pub list_line : Entry (List ℕ) → List ℕ
list_line entry = (entry.word ++ drop (length entry.word) (codes "        ")) ++ (entry.summary ++ codes "\n")
