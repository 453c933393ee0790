-- Frames of answers.
use Rattle.std.specs.Prelude.{ℕ, ◌-◌, List, [], ◌∷◌, ◌++◌, length, flat_map, nat_lt, cond, codes, replicate, unwrap_or}
use Rattle.std.specs.Int.{w16, to_be_bytes}
use Rattle.hd_dbd.specs.declared.answer.Refused.{Refused}
use Rattle.hd_dbd.specs.declared.answer.Refused.TheVariants.{Memory, Full, Device, Broken, Area}
use Rattle.hd_dbd.specs.Calls.{Reply}
use Rattle.hd_dbd.specs.Statuses.{status_text}
use Rattle.hd_serve.specs.Frames.{frame_bytes}

-- the body of an answer's frame: 0, the status, level and segment, eight blanks where there is none, the length of the key in two bytes, the key,
-- and the area
abbrev pub answer_bytes : Reply → List ℕ
answer_bytes r =
    0 ∷ (status_text r.status ++ r.level ∷ (unwrap_or r.segment (replicate 8 32) ++ (to_be_bytes w16 (length r.key) ++ (r.key ++ r.area))))

abbrev pub refused_number : Refused → ℕ
refused_number Full = 1
refused_number Area = 2
refused_number Memory = 3
refused_number Device = 4
refused_number Broken = 5

-- the body of a refusal's frame: its number, and behind it what an answer without segment, key and area has
abbrev pub refusal_bytes : Refused → List ℕ
refusal_bytes refused = refused_number refused ∷ (codes "  " ++ 0 ∷ (replicate 8 32 ++ to_be_bytes w16 0))

-- the body of the frame that says that a commit or a roll back is done: 6
abbrev pub done_bytes : List ℕ
done_bytes = 6 ∷ []

-- the most bytes that the frames of answers take together in the frame of what is foretold
abbrev pub TOLD_ROOM : ℕ
TOLD_ROOM = 32768

-- the first of some answers, as long as their frames have room one behind the other
abbrev pub in_room : ℕ → List Reply → List Reply
in_room room [] = []
in_room room (r ∷ replies) =
    cond (nat_lt room (length (frame_bytes (answer_bytes r)))) [] (r ∷ in_room (room - length (frame_bytes (answer_bytes r))) replies)

-- the body of the frame of what is foretold: 7, and the frame of each answer
abbrev pub told_bytes : List Reply → List ℕ
told_bytes replies = 7 ∷ flat_map (λ r. frame_bytes (answer_bytes r)) replies
