-- A worked log: that a log is legal can be met, with an answer of each kind of change, Full for a root, and want of memory.
use Rattle.std.proofs.Common.{◌≡◌, ℕ, List, [], ◌∷◌, map, ap, sym, ◌∙◌, Some, refl, inl, lit<, lit≤}
use Rattle.std.specs.Prelude.{codes}
use Rattle.hd_dbd.specs.declared.answer.Status.TheVariants.{Blank, DJ}
use Rattle.hd_dbd.specs.Segment.{Segment}
use Rattle.hd_dbd.specs.Calls.{bare}
use Rattle.hd_dbd.specs.Logs.{Outcome, replied, area, full, memory, Entry, Log}
use Rattle.hd_dbd.specs.Sample.{of_type, sample_types, sample_pcbs, sample_rows}
use Rattle.hd_calls.specs.Moves.{put_in, taken_out}
use Rattle.hd_calls.specs.Runs.{Images, IsLegalLog}
use Rattle.hd_calls.specs.NoLostUpdate.{opened}

-- A row at an address: a small image is a list of them.
pub record Stored : Type 0 where
  pub address : ℕ
  pub row : Segment

abbrev rows_of : List Stored → List Segment
rows_of image = map (λ s. s.row) image

abbrev addresses_of : List Stored → List ℕ
addresses_of image = map (λ s. s.address) image

-- images with one block to spare and no hole, whose index may need a block more for a root
abbrev small : Images (List Stored)
small = record {
  HoldsAt = λ image rows addresses. (rows_of image ≡ rows) × (addresses_of image ≡ addresses);
  largest = λ image. 16;
  spare = λ image. 1;
  index_growth = λ image. 1;
  IsHighest = λ image. ⊥;
  HasHole = λ image n. ⊥;
}

abbrev stored : ℕ → Segment → Stored
stored address row = record { address = address; row = row }

abbrev first_image : List Stored
first_image =
    stored 136 (of_type 1 (codes "101ALGEB")) ∷ stored 176 (of_type 2 (codes "01AB")) ∷ stored 200 (of_type 3 (codes "ADAM01")) ∷ stored 216 (of_type 3 (codes "EVE 02"))
    ∷ stored 232 (of_type 2 (codes "02CD")) ∷ stored 264 (of_type 4 (codes "EULER")) ∷ stored 288 (of_type 1 (codes "205LOGIC")) ∷ []

abbrev second_image : List Stored
second_image = put_in 5 (stored 400 (of_type 3 (codes "ABEL09")) ∷ []) first_image

abbrev third_image : List Stored
third_image = taken_out 2 3 second_image

abbrev entry : List Stored → ℕ → List ℕ → List (List ℕ) → List ℕ → Outcome → Entry (List Stored)
entry before pcb function ssas bytes outcome = record { before = before; pcb = pcb; call = record { function = function; ssas = ssas; area = bytes }; outcome = outcome }

abbrev answer : ℕ → List ℕ → List ℕ → List ℕ → Outcome
answer level name key bytes = replied (record { status = Blank; level = level; segment = Some name; key = key; area = bytes })

-- a student is inserted; another is held and deleted; nothing is held any more; a root has no room; a call finds no memory; an area is
-- too short
abbrev worked_log : Log (List Stored)
worked_log = record {
  entries =
      entry first_image 1 (codes "ISRT") (codes "CLASS   (ED      EQ02)" ∷ codes "STUD    " ∷ []) (codes "ABEL09") (answer 3 (codes "STUD    ") (codes "10102ABEL") [])
      ∷ entry second_image 2 (codes "GHU ") (codes "STUD    (SNAME   EQADAM)" ∷ []) [] (answer 3 (codes "STUD    ") (codes "10101ADAM") (codes "ADAM01"))
      ∷ entry second_image 2 (codes "DLET") [] [] (answer 3 (codes "STUD    ") (codes "10101ADAM") [])
      ∷ entry third_image 2 (codes "REPL") [] (codes "ADAM77") (replied (bare DJ))
      ∷ entry third_image 1 (codes "ISRT") (codes "COURSE  " ∷ []) (codes "300ABCDE") full
      ∷ entry third_image 3 (codes "GN  ") [] [] memory
      ∷ entry third_image 1 (codes "ISRT") (codes "COURSE  " ∷ []) (codes "300") area
      ∷ [];
  last = third_image;
}

pub worked_log_is_legal : IsLegalLog small sample_types sample_pcbs first_image (opened sample_pcbs sample_rows) worked_log
worked_log_is_legal = record {
  begins = refl;
  runs = (
    lit< tt,
    lit≤ tt,
    refl,
    (
      lit< tt,
      lit≤ tt,
      refl,
      (
        lit< tt,
        lit≤ tt,
        refl,
        (
          lit< tt,
          lit≤ tt,
          refl,
          (
            lit< tt,
            lit≤ tt,
            refl,
            (
              lit< tt,
              lit≤ tt,
              tt,
              (lit< tt, lit≤ tt, tt, tt),
            ),
          ),
        ),
      ),
    ),
  );
  follows = (
    (addresses_of first_image, (refl, refl)),
    record { largest = refl; room = lit≤ tt; addresses = λ before after old new. (400 ∷ [], refl, sym new.1 ∙ ap (λ (xs : List ℕ). put_in 5 (400 ∷ []) xs) old.1) },
    (
      (addresses_of second_image, (refl, refl)),
      record { largest = refl; room = lit≤ tt; addresses = λ before after old new. sym new.1 ∙ old.1 },
      (
        (addresses_of second_image, (refl, refl)),
        record { largest = refl; room = lit≤ tt; addresses = λ before after old new. sym new.1 ∙ ap (λ (xs : List ℕ). taken_out 2 3 xs) old.1 },
        (
          (addresses_of third_image, (refl, refl)),
          record { largest = refl; room = lit≤ tt; addresses = λ before after old new. sym new.1 ∙ old.1 },
          (
            (addresses_of third_image, (refl, refl)),
            (record { blocks = inl (lit< tt); holes = inl refl }, refl),
            (
              (addresses_of third_image, (refl, refl)),
              refl,
              (
                (addresses_of third_image, (refl, refl)),
                refl,
                (addresses_of third_image, (refl, refl)),
              ),
            ),
          ),
        ),
      ),
    ),
  );
}
