-- Segments of the sample, read by the definitions themselves: an edit of a definition that changes one of these is refused
-- here.
use Rattle.std.proofs.Common.{◌≡◌, ℕ, List, [], ◌∷◌, refl}
use Rattle.std.specs.Prelude.{codes, Some, None}
use Rattle.hd_bytes.specs.Numbers.{number_at}
use Rattle.hd_dbd.specs.Sample.{sample_types}
use Rattle.hd_prefix.specs.declared.pointer.Pointer.TheVariants.{TwinForward, TwinBackward, FirstChild, LastChild}
use Rattle.hd_prefix.specs.Pointers.{place_of}
use Rattle.hd_prefix.specs.Fields.{code_of, delete_byte_of, pointer_of, bytes_of, new_segment}

-- a course with a twin behind it, two classes and a book, as it is stored
abbrev pub course : List ℕ
course = 1 ∷ 0 ∷ 0 ∷ 0 ∷ 1 ∷ 24 ∷ 0 ∷ 0 ∷ 0 ∷ 0 ∷ 0 ∷ 0 ∷ 0 ∷ 176 ∷ 0 ∷ 0 ∷ 0 ∷ 232 ∷ 0 ∷ 0 ∷ 1 ∷ 8 ∷ 0 ∷ 0 ∷ 1 ∷ 8 ∷ 49 ∷ 48 ∷ 49 ∷ 65 ∷ 76 ∷ 71 ∷ 69 ∷ 66 ∷ 0 ∷ 0 ∷ 0 ∷ 0 ∷ 0 ∷ 0 ∷ []

-- its first class, with a twin behind it and students
abbrev pub class : List ℕ
class = 2 ∷ 0 ∷ 0 ∷ 0 ∷ 0 ∷ 232 ∷ 0 ∷ 0 ∷ 0 ∷ 0 ∷ 0 ∷ 0 ∷ 0 ∷ 200 ∷ 48 ∷ 49 ∷ 65 ∷ 66 ∷ 0 ∷ 0 ∷ 0 ∷ 0 ∷ 0 ∷ 0 ∷ []

-- the first student of that class, with a twin behind it
abbrev pub student : List ℕ
student = 3 ∷ 0 ∷ 0 ∷ 0 ∷ 0 ∷ 216 ∷ 65 ∷ 68 ∷ 65 ∷ 77 ∷ 48 ∷ 49 ∷ 0 ∷ 0 ∷ 0 ∷ 0 ∷ []

-- the course's only book
abbrev pub book : List ℕ
book = 4 ∷ 0 ∷ 0 ∷ 0 ∷ 0 ∷ 0 ∷ 0 ∷ 0 ∷ 0 ∷ 0 ∷ 69 ∷ 85 ∷ 76 ∷ 69 ∷ 82 ∷ 0 ∷ []

-- where a course keeps its pointers
pub course_places :
    (place_of sample_types 1 TwinForward ≡ Some 2)
    × (place_of sample_types 1 TwinBackward ≡ Some 6)
    × (place_of sample_types 1 (FirstChild 2) ≡ Some 10)
    × (place_of sample_types 1 (LastChild 2) ≡ Some 14)
    × (place_of sample_types 1 (FirstChild 4) ≡ Some 18)
    × (place_of sample_types 1 (LastChild 4) ≡ Some 22)
    × (place_of sample_types 1 (FirstChild 3) ≡ None)
course_places = (refl, refl, refl, refl, refl, refl, refl)

-- and a class, which keeps no last student, and a student, which keeps no twin backward
pub class_places :
    (place_of sample_types 2 (FirstChild 3) ≡ Some 10)
    × (place_of sample_types 2 (LastChild 3) ≡ None)
    × (place_of sample_types 3 TwinForward ≡ Some 2)
    × (place_of sample_types 3 TwinBackward ≡ None)
    × (place_of sample_types 5 TwinForward ≡ None)
class_places = (refl, refl, refl, refl, refl)

-- the fields of the course
pub course_fields :
    (code_of course ≡ 1)
    × (delete_byte_of course ≡ 0)
    × (pointer_of sample_types 1 TwinForward course ≡ 280)
    × (pointer_of sample_types 1 TwinBackward course ≡ 0)
    × (pointer_of sample_types 1 (FirstChild 2) course ≡ 176)
    × (pointer_of sample_types 1 (LastChild 2) course ≡ 232)
    × (pointer_of sample_types 1 (FirstChild 4) course ≡ 264)
    × (pointer_of sample_types 1 (LastChild 4) course ≡ 264)
    × (pointer_of sample_types 1 (FirstChild 3) course ≡ 0)
    × (bytes_of sample_types 1 course ≡ codes "101ALGEB")
unfolding number_at
course_fields = (refl, refl, refl, refl, refl, refl, refl, refl, refl, refl)

-- of the class
pub class_fields :
    (code_of class ≡ 2)
    × (delete_byte_of class ≡ 0)
    × (pointer_of sample_types 2 TwinForward class ≡ 232)
    × (pointer_of sample_types 2 TwinBackward class ≡ 0)
    × (pointer_of sample_types 2 (FirstChild 3) class ≡ 200)
    × (pointer_of sample_types 2 (LastChild 3) class ≡ 0)
    × (bytes_of sample_types 2 class ≡ codes "01AB")
unfolding number_at
class_fields = (refl, refl, refl, refl, refl, refl, refl)

-- of the student
pub student_fields :
    (code_of student ≡ 3)
    × (delete_byte_of student ≡ 0)
    × (pointer_of sample_types 3 TwinForward student ≡ 216)
    × (pointer_of sample_types 3 TwinBackward student ≡ 0)
    × (bytes_of sample_types 3 student ≡ codes "ADAM01")
unfolding number_at
student_fields = (refl, refl, refl, refl, refl)

-- of the book
pub book_fields :
    (code_of book ≡ 4)
    × (delete_byte_of book ≡ 0)
    × (pointer_of sample_types 4 TwinForward book ≡ 0)
    × (pointer_of sample_types 4 TwinBackward book ≡ 0)
    × (bytes_of sample_types 4 book ≡ codes "EULER")
unfolding number_at
book_fields = (refl, refl, refl, refl, refl)

-- the book is stored as it was new
pub book_is_new : new_segment sample_types 4 (codes "EULER") ≡ book
book_is_new = refl
