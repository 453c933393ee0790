-- The sample, computed by the definitions themselves: an edit of a definition that changes one of these is refused here.
use Rattle.std.proofs.Common.{◌≡◌, List, [], ◌∷◌, true, Some, None, Option, refl}
use Rattle.std.specs.Prelude.{codes, take}
use Rattle.hd_dbd.specs.Prefixes.{prefix_length, pointers_at, stored_size}
use Rattle.hd_dbd.specs.DatabaseRules.{well_formed}
use Rattle.hd_dbd.specs.ProgramRules.{program_fits, type_names}
use Rattle.hd_dbd.specs.declared.answer.LoadFault.{LoadFault}
use Rattle.hd_dbd.specs.declared.answer.LoadFault.TheVariants.{LB, LC, LD, LE}
use Rattle.hd_dbd.specs.Segment.{Segment}
use Rattle.hd_dbd.specs.Rows.{valid}
use Rattle.hd_dbd.specs.Loads.{last_path, load_fault}
use Rattle.hd_dbd.specs.Sample.{sample_types, sample_pcbs, sample_rows, of_type}

-- the sample is a database, a program over it, and rows in hierarchic sequence
pub sample_is_well_formed : well_formed 128 (record { fbff = 0; fspf = 0 }) sample_types ≡ true
sample_is_well_formed = refl

pub sample_program_fits : program_fits (type_names sample_types) sample_pcbs ≡ true
sample_program_fits = refl

pub sample_is_valid : valid sample_types sample_rows ≡ true
sample_is_valid = refl

-- the prefixes of its segments
pub course_prefix : (prefix_length sample_types 1 ≡ 26) × (stored_size sample_types 1 ≡ 40)
course_prefix = (refl, refl)

pub class_prefix : (prefix_length sample_types 2 ≡ 14) × (stored_size sample_types 2 ≡ 24) × (pointers_at sample_types 2 ≡ 10)
class_prefix = (refl, refl, refl)

pub student_prefix : (prefix_length sample_types 3 ≡ 6) × (stored_size sample_types 3 ≡ 16) × (pointers_at sample_types 3 ≡ 10)
student_prefix = (refl, refl, refl)

pub book_prefix : (prefix_length sample_types 4 ≡ 10) × (stored_size sample_types 4 ≡ 16) × (pointers_at sample_types 4 ≡ 18)
book_prefix = (refl, refl, refl)

-- ---- loads

-- why a row may not be loaded behind others
abbrev loaded : List Segment → Segment → Option LoadFault
loaded rows new = load_fault sample_types (last_path sample_types rows) new

-- a root behind a greater one, a student without a class, a root twice, and a class behind a book
pub roots_ascend : loaded (of_type 1 (codes "205LOGIC") ∷ []) (of_type 1 (codes "101ALGEB")) ≡ Some LC
roots_ascend = refl

pub students_have_a_class : loaded [] (of_type 3 (codes "ADAM01")) ≡ Some LD
students_have_a_class = refl

pub roots_differ : loaded (of_type 1 (codes "101ALGEB") ∷ []) (of_type 1 (codes "101ALGEB")) ≡ Some LB
roots_differ = refl

pub classes_precede_books : loaded (of_type 1 (codes "101ALGEB") ∷ of_type 4 (codes "EULER") ∷ []) (of_type 2 (codes "01AB")) ≡ Some LE
classes_precede_books = refl

-- students of one name may stand side by side, and books in any order
pub students_may_be_alike : loaded (take 3 sample_rows) (of_type 3 (codes "ADAM01")) ≡ None
students_may_be_alike = refl

pub students_ascend : loaded (take 4 sample_rows) (of_type 3 (codes "ADAM01")) ≡ Some LC
students_ascend = refl

pub books_stand_anyhow : loaded (take 6 sample_rows) (of_type 4 (codes "ABEL ")) ≡ None
books_stand_anyhow = refl
