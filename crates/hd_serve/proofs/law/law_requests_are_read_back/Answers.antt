use Rattle.std.proofs.Common.{◌∙◌, ap}
use Rattle.hd_serve.specs.Frames.{request_in}
use Rattle.hd_serve.proofs.RequestFrames.{request-right, request-read}
use Rattle.hd_serve.proofs.Apart.{bytes-from}
use Rattle.hd_serve.proofs.law.law_requests_are_read_back.Goals as goal

pub returns : goal.returns
returns c = λ limits body r bytes. (request-right limits r body (bytes-from body bytes), λ h. ap (request_in limits) h.0 ∙ request-read limits r h.1)
