-- The reply that an answer is.
use Rattle.hd_dbd.specs.Calls.{Reply}
use Rattle.hd_session.specs.declared.call_and_answer.Answer.{Answer}
use Rattle.hd_session.specs.Buffer.{Buffer}

-- an answer with the bytes beside it
abbrev pub reply_of : Answer → Buffer → Reply
reply_of a b = record { status = a.status; level = a.level; segment = a.segment; key = b.key; area = b.area }
