-- The two letters of a status.
use Rattle.std.specs.Prelude.{ℕ, List, codes}
use Rattle.hd_dbd.specs.declared.answer.Status.{Status}
use Rattle.hd_dbd.specs.declared.answer.Status.TheVariants.{Blank, GA, GK, GB, GE, GP, II, V1, DA, DJ, LB, LC, LD, LE, AC, AD, AH, AJ, AK, AM}

-- two blanks where nothing is amiss
abbrev pub status_text : Status → List ℕ
status_text Blank = codes "  "
status_text GA = codes "GA"
status_text GK = codes "GK"
status_text GB = codes "GB"
status_text GE = codes "GE"
status_text GP = codes "GP"
status_text II = codes "II"
status_text V1 = codes "V1"
status_text DA = codes "DA"
status_text DJ = codes "DJ"
status_text LB = codes "LB"
status_text LC = codes "LC"
status_text LD = codes "LD"
status_text LE = codes "LE"
status_text AC = codes "AC"
status_text AD = codes "AD"
status_text AH = codes "AH"
status_text AJ = codes "AJ"
status_text AK = codes "AK"
status_text AM = codes "AM"
