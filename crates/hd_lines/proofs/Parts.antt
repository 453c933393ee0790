-- Two parts of a text in front of the others.
use Rattle.std.proofs.Common.{◌≡◌, List, ◌++◌, Result, Ok, Err, ap, refl, sym, append_assoc}
use Rattle.hd_lines.specs.Reading.{before}

-- what one part gives in front of what another gives in front of others is what both give in front of them
pub before_both : {A E : Type 0} (front next : List A) (others : Result (List A) E) → before front (before next others) ≡ before (front ++ next) others
before_both front next (Ok more) = ap Ok (sym (append_assoc front next more))
before_both front next (Err fault) = refl
