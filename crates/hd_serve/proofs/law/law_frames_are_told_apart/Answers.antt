use Rattle.std.proofs.Common.{◌∙◌, ap, inl, inr}
use Rattle.hd_serve.specs.Frames.{frame_fault}
use Rattle.hd_serve.proofs.Apart.{bytes-from, none-begins, none-wrong}
use Rattle.hd_serve.proofs.law.law_frames_are_told_apart.Goals as goal

pub returns : goal.returns
returns c = λ limits bytes few all. (
  none-begins limits bytes (bytes-from bytes all),
  elim [ inl empty ↦ ap (frame_fault limits) empty | inr begins ↦ ap (frame_fault limits) begins.spelled ∙ none-wrong limits begins.request begins.rest few begins.fits ],
)
