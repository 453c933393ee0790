-- The lines that a run prints, one for each entry of its log.
use Rattle.std.specs.Prelude.{ℕ, ◌+◌, ◌/◌, ◌%◌, List, [], ◌∷◌, ◌++◌, Bool, cond, not, nat_le, nat_lt, ◌&&◌, ◌==◌, Option, codes, decimal, replicate, flat_map, unwrap_or, Result, Ok, Err}
use Rattle.hd_dbd.specs.declared.answer.Status.{Status}
use Rattle.hd_dbd.specs.declared.answer.Refused.{Refused}
use Rattle.hd_dbd.specs.declared.answer.Refused.TheVariants as refused
use Rattle.hd_dbd.specs.Statuses.{status_text}
use Rattle.hd_dbd.specs.Logs.{Outcome, replied, area, full, memory, Entry, Log}
use Rattle.hd_session.specs.declared.call_and_answer.Answer.{Answer}
use Rattle.hd_session.specs.Buffer.{Buffer}
use Rattle.hd_session.specs.Replies.{reply_of}

-- a digit below 16, lower case
abbrev pub hex_digit : ℕ → ℕ
hex_digit n = cond (nat_lt n 10) (48 + n) (87 + n)

-- a byte from 32 to 126 as it is, but a backslash doubled; any other by two digits behind a backslash and an x
abbrev pub shown_byte : ℕ → List ℕ
shown_byte b =
    cond (b == 92) (92 ∷ 92 ∷ [])
    (cond (nat_le 32 b && nat_le b 126) (b ∷ []) (92 ∷ 120 ∷ hex_digit (b / 16) ∷ hex_digit (b % 16) ∷ []))

-- whether that is the byte as it is
abbrev pub is_plain : ℕ → Bool
is_plain b = not (b == 92) && (nat_le 32 b && nat_le b 126)

abbrev pub shown : List ℕ → List ℕ
shown bytes = flat_map shown_byte bytes

abbrev pub two_digits : ℕ → List ℕ
two_digits n = (48 + n / 10) ∷ (48 + n % 10) ∷ []

-- the number of the call, the PCB and the function
abbrev pub head_text : ℕ → ℕ → List ℕ → List ℕ
head_text number pcb function = decimal number ++ codes " " ++ decimal pcb ++ codes " " ++ function

abbrev pub bracket_text : Status → List ℕ
bracket_text status = codes " [" ++ status_text status ++ codes "] "

-- level and segment, eight blanks where there is none
abbrev pub place_text : ℕ → Option (List ℕ) → List ℕ
place_text level segment = two_digits level ++ codes " " ++ unwrap_or segment (replicate 8 32)

abbrev pub bytes_text : List ℕ → List ℕ → List ℕ
bytes_text key bytes = codes " key=" ++ shown key ++ codes " area=" ++ shown bytes ++ codes "\n"

-- an answer, or else a refusal's name in place of all that
abbrev pub outcome_text : Outcome → List ℕ
outcome_text (replied r) = bracket_text r.status ++ place_text r.level r.segment ++ bytes_text r.key r.area
outcome_text area = codes " [!!] Area\n"
outcome_text full = codes " [!!] Full\n"
outcome_text memory = codes " [!!] Memory\n"

abbrev pub refused_text : Refused → List ℕ
refused_text refused.Memory = codes "Memory"
refused_text refused.Full = codes "Full"
refused_text refused.Device = codes "Device"
refused_text refused.Broken = codes "Broken"
refused_text refused.Area = codes "Area"

-- a refusal's name
abbrev pub refusal_text : Refused → List ℕ
refusal_text e = codes " [!!] " ++ refused_text e ++ codes "\n"

-- what a call answered
abbrev pub answered_text : Result Answer Refused → Buffer → List ℕ
answered_text (Ok a) b = outcome_text (replied (reply_of a b))
answered_text (Err e) b = refusal_text e

-- the line of one entry
abbrev pub line_of : {Image : Type 0} → ℕ → Entry Image → List ℕ
line_of number e = head_text number e.pcb e.call.function ++ outcome_text e.outcome

-- the lines of entries, the first of which has the number
abbrev pub lines_from : {Image : Type 0} → ℕ → List (Entry Image) → List ℕ
lines_from number [] = []
lines_from number (e ∷ es) = line_of number e ++ lines_from (number + 1) es

-- what a run prints
abbrev pub print : {Image : Type 0} → Log Image → List ℕ
print log = lines_from 1 log.entries
