-- The sample image of the documents, worked: its records hold the sample's forest.
use Rattle.std.proofs.Common.{◌≡◌, ℕ, zero, suc, ◌<◌, List, [], ◌∷◌, true, arith, ap, sym, ◌∙◌, refl, subst, cond, inl, inr}
use Rattle.std.specs.Prelude.{◌==◌, codes}
use Rattle.std.proofs.lemmas.Bool.{cases_eq, eq-eqb, ne_eqb, cond-true, cond-false}
use Rattle.hd_dbd.specs.Segment.{Segment}
use Rattle.hd_dbd.specs.Rows.{row_fits}
use Rattle.hd_dbd.specs.Sample.{sample_types, sample_rows, of_type}
use Rattle.hd_dbd.specs.Forest.{Forest, empty, node}
use Rattle.hd_dbd.proofs.WorkedSample.{sample_is_well_formed}
use Rattle.hd_links.specs.Links.{Links, IsSegment, IsLinkGraph, segment_at, is_last_kept}
use Rattle.hd_links.specs.Placed.{Placed, count, first_of, last_of, NamesChildren, Lies, Holds}
use Rattle.hd_links.specs.Steps.{rows_of, path_at, next_row, behind_span}
use Rattle.hd_links.specs.Pointers.{Precedes, IsReached}
use Rattle.hd_links.proofs.Build.{zero_or}
use Rattle.hd_links.specs.Faulty.{HoldNone, FaultyRecords}
use Rattle.hd_links.proofs.Types.{is_in, in_cases, ordered}
use Rattle.hd_links.proofs.Faulty.{faulty}

-- the records of the image
abbrev places : List ℕ
places = 0 ∷ 136 ∷ 176 ∷ 200 ∷ 216 ∷ 232 ∷ 264 ∷ 280 ∷ []

abbrev image_code : ℕ → ℕ
image_code a = cond (a == 136) 1 (cond (a == 280) 1 (cond (a == 176) 2 (cond (a == 232) 2 (cond (a == 200) 3 (cond (a == 216) 3 (cond (a == 264) 4 0))))))

abbrev image_bytes : ℕ → List ℕ
image_bytes a =
    cond (a == 136) (codes "101ALGEB") (cond (a == 280) (codes "205LOGIC") (cond (a == 176) (codes "01AB") (cond (a == 232) (codes "02CD")
    (cond (a == 200) (codes "ADAM01") (cond (a == 216) (codes "EVE 02") (cond (a == 264) (codes "EULER") []))))))

abbrev image : Links
image = record {
  here = λ a. is_in places a;
  code = image_code;
  delete_byte = λ a. 0;
  bytes = image_bytes;
  forward = λ a. cond (a == 136) 280 (cond (a == 176) 232 (cond (a == 200) 216 0));
  backward = λ a. cond (a == 232) 176 (cond (a == 280) 136 0);
  first_child = λ a t. cond (a == 0) 136 (cond (a == 136) (cond (t == 2) 176 264) (cond (a == 176) 200 0));
  last_child = λ a t. cond (a == 0) 280 (cond (a == 136) (cond (t == 2) 232 264) 0);
}

-- the sample's forest in its places
abbrev at : ℕ → Segment → Placed
at a s = record { address = a; segment = s }

abbrev sample_forest : Forest Placed
sample_forest =
    node (at 136 (of_type 1 (codes "101ALGEB")))
    (node (at 176 (of_type 2 (codes "01AB")))
    (node (at 200 (of_type 3 (codes "ADAM01"))) empty (node (at 216 (of_type 3 (codes "EVE 02"))) empty empty))
    (node (at 232 (of_type 2 (codes "02CD"))) empty (node (at 264 (of_type 4 (codes "EULER"))) empty empty)))
    (node (at 280 (of_type 1 (codes "205LOGIC"))) empty empty)

-- its rows are the sample's
sample_sequence : rows_of sample_forest ≡ sample_rows
sample_sequence = refl

-- the root's child types are 2 and 4, and the class's 3
one_of_two : (t : ℕ) (P : ℕ → Type 0) → is_in (2 ∷ 4 ∷ []) t ≡ true → P 2 → P 4 → P t
one_of_two t P q a b = elim (in_cases 2 t (4 ∷ []) q) [
  | inl e ↦ subst P e a
  | inr r ↦ elim (in_cases 4 t [] r) [ inl e ↦ subst P e b | inr w ↦ cc ]
]

one_of_one : (u t : ℕ) (P : ℕ → Type 0) → is_in (u ∷ []) t ≡ true → P u → P t
one_of_one u t P q a = elim (in_cases u t [] q) [ inl e ↦ subst P e a | inr w ↦ cc ]

-- what a course, a class, a student and a book name below them
course : (a : ℕ) (f : Forest Placed) → image.first_child a 2 ≡ first_of f 2 → image.first_child a 4 ≡ first_of f 4 → image.last_child a 2 ≡ last_of f 2 → image.last_child a 4 ≡ last_of f 4
    → NamesChildren sample_types image 1 a f
course a f e g k l = record {
  first = λ t q. one_of_two t (λ t. image.first_child a t ≡ first_of f t) q e g;
  last = λ t q kept. one_of_two t (λ t. image.last_child a t ≡ last_of f t) q k l;
}

class : (a : ℕ) (f : Forest Placed) → image.first_child a 3 ≡ first_of f 3 → NamesChildren sample_types image 2 a f
class a f e = record {
  first = λ t q. one_of_one 3 t (λ t. image.first_child a t ≡ first_of f t) q e;
  last = λ t q kept. absurd (one_of_one 3 t (λ t. is_last_kept sample_types t ≡ true → ⊥) q (λ w. cc) kept);
}

student : (a : ℕ) (f : Forest Placed) → NamesChildren sample_types image 3 a f
student a f = record { first = λ t q. cc; last = λ t q kept. cc }

book : (a : ℕ) (f : Forest Placed) → NamesChildren sample_types image 4 a f
book a f = record { first = λ t q. cc; last = λ t q kept. cc }

students : Forest Placed
students = node (at 200 (of_type 3 (codes "ADAM01"))) empty (node (at 216 (of_type 3 (codes "EVE 02"))) empty empty)

-- it lies in the records
sample_lies : Lies sample_types image sample_forest
sample_lies = record {
  roots = record {
    first = λ t q. one_of_one 1 t (λ t. image.first_child 0 t ≡ first_of sample_forest t) q refl;
    last = λ t q kept. one_of_one 1 t (λ t. image.last_child 0 t ≡ last_of sample_forest t) q refl;
  };
  nodes = (
    record {
      there = record { some = omega arith; here = refl };
      code = refl;
      bytes = refl;
      delete_byte = refl;
      forward = refl;
      backward = λ q. refl;
      children = course 136 _ refl refl refl refl;
    },
    (
      record { there = record { some = omega arith; here = refl }; code = refl; bytes = refl; delete_byte = refl; forward = refl; backward = λ q. refl; children = class 176 _ refl },
      (
        record { there = record { some = omega arith; here = refl }; code = refl; bytes = refl; delete_byte = refl; forward = refl; backward = λ q. cc; children = student 200 _ },
        tt,
        (
          record { there = record { some = omega arith; here = refl }; code = refl; bytes = refl; delete_byte = refl; forward = refl; backward = λ q. cc; children = student 216 _ },
          tt,
          tt,
        ),
      ),
      (
        record { there = record { some = omega arith; here = refl }; code = refl; bytes = refl; delete_byte = refl; forward = refl; backward = λ q. refl; children = class 232 _ refl },
        tt,
        (
          record { there = record { some = omega arith; here = refl }; code = refl; bytes = refl; delete_byte = refl; forward = refl; backward = λ q. refl; children = book 264 _ },
          tt,
          tt,
        ),
      ),
    ),
    (
      record { there = record { some = omega arith; here = refl }; code = refl; bytes = refl; delete_byte = refl; forward = refl; backward = λ q. refl; children = course 280 _ refl refl refl refl },
      tt,
      tt,
    ),
  );
}

-- each of its places is one node
each_place : (P : ℕ → Type 0) → P 136 → P 176 → P 200 → P 216 → P 232 → P 264 → P 280 → (a : ℕ) → IsSegment image a → P a
each_place P p1 p2 p3 p4 p5 p6 p7 a s =
    elim (in_cases 0 a (136 ∷ 176 ∷ 200 ∷ 216 ∷ 232 ∷ 264 ∷ 280 ∷ []) s.here) [
      | inl e ↦ absurd (let l : 0 < a = s.some in omega arith)
      | inr q1 ↦ elim (in_cases 136 a (176 ∷ 200 ∷ 216 ∷ 232 ∷ 264 ∷ 280 ∷ []) q1) [
        | inl e ↦ subst P e p1
        | inr q2 ↦ elim (in_cases 176 a (200 ∷ 216 ∷ 232 ∷ 264 ∷ 280 ∷ []) q2) [
          | inl e ↦ subst P e p2
          | inr q3 ↦ elim (in_cases 200 a (216 ∷ 232 ∷ 264 ∷ 280 ∷ []) q3) [
            | inl e ↦ subst P e p3
            | inr q4 ↦ elim (in_cases 216 a (232 ∷ 264 ∷ 280 ∷ []) q4) [
              | inl e ↦ subst P e p4
              | inr q5 ↦ elim (in_cases 232 a (264 ∷ 280 ∷ []) q5) [
                | inl e ↦ subst P e p5
                | inr q6 ↦ elim (in_cases 264 a (280 ∷ []) q6) [
                  | inl e ↦ subst P e p6
                  | inr q7 ↦ one_of_one 280 a P q7 p7
                ]
              ]
            ]
          ]
        ]
      ]
    ]

-- the records are those of a database
pub sample_graph : IsLinkGraph sample_types 512 image
sample_graph = record {
  header = refl;
  header_code = refl;
  fits = each_place (λ a. row_fits sample_types (segment_at image a) ≡ true) refl refl refl refl refl refl refl;
  below = each_place (λ a. a < 512) (omega arith) (omega arith) (omega arith) (omega arith) (omega arith) (omega arith) (omega arith);
}

-- and they hold the sample's forest
pub sample_held : Holds sample_types image sample_forest
sample_held = record {
  lies = sample_lies;
  fits = refl;
  once = each_place (λ a. count a sample_forest ≡ 1) refl refl refl refl refl refl refl;
}

-- the steps by pointers from some of its rows
steps_worked : (next_row sample_types image [] ≡ 136) × (next_row sample_types image (136 ∷ 176 ∷ []) ≡ 200) × (behind_span sample_types image (136 ∷ 176 ∷ []) ≡ 232)
    × (next_row sample_types image (136 ∷ 232 ∷ []) ≡ 264) × (behind_span sample_types image (136 ∷ []) ≡ 280) × (next_row sample_types image (280 ∷ []) ≡ 0)
steps_worked = (refl, refl, refl, refl, refl, refl)

-- the path of the second student
path_worked : path_at sample_types sample_forest 3 ≡ 136 ∷ 176 ∷ 216 ∷ []
path_worked = refl

-- ---- images that hold no forest

-- faulty records over the image's segments
faulty_image : (m : Links) → IsLinkGraph sample_types 512 m → FaultyRecords sample_types m
faulty_image m G = faulty sample_types (ordered 128 (record { fbff = 0; fspf = 0 }) sample_types sample_is_well_formed) 512 m G

-- a ring of two books beside it, which nothing names

abbrev ring : Links
ring = record {
  here = λ a. is_in (320 ∷ 336 ∷ places) a;
  code = λ a. cond (a == 320) 4 (cond (a == 336) 4 (image.code a));
  delete_byte = image.delete_byte;
  bytes = λ a. cond (a == 320) (codes "ONE  ") (cond (a == 336) (codes "TWO  ") (image.bytes a));
  forward = λ a. cond (a == 320) 336 (cond (a == 336) 320 (image.forward a));
  backward = λ a. cond (a == 320) 336 (cond (a == 336) 320 (image.backward a));
  first_child = image.first_child;
  last_child = image.last_child;
}

ring_graph : IsLinkGraph sample_types 512 ring
ring_graph = record {
  header = refl;
  header_code = refl;
  fits = each_ring (λ a. row_fits sample_types (segment_at ring a) ≡ true) refl refl refl refl refl refl refl refl refl;
  below = each_ring (λ a. a < 512) (omega arith) (omega arith) (omega arith) (omega arith) (omega arith) (omega arith) (omega arith) (omega arith) (omega arith);
}
  where
    each_ring : (P : ℕ → Type 0) → P 320 → P 336 → P 136 → P 176 → P 200 → P 216 → P 232 → P 264 → P 280 → (a : ℕ) → IsSegment ring a → P a
    each_ring P r1 r2 p1 p2 p3 p4 p5 p6 p7 a s =
        elim (in_cases 320 a (336 ∷ places) s.here) [
          | inl e ↦ subst P e r1
          | inr q ↦ elim (in_cases 336 a places q) [
            | inl e ↦ subst P e r2
            | inr w ↦ each_place P p1 p2 p3 p4 p5 p6 p7 a (record { some = s.some; here = w })
          ]
        ]

-- they hold no forest
pub ring_holds_none : HoldNone sample_types ring
ring_holds_none =
    (faulty_image ring ring_graph).ring 320 1 (record { some = omega arith; here = refl })
    (omega arith, (omega arith, refl))

-- the second course names the second class too, which is the first class's twin
abbrev twice : Links
twice = record image { first_child = λ a t. cond (a == 280) (cond (t == 2) 232 0) (image.first_child a t) }

twice_graph : IsLinkGraph sample_types 512 twice
twice_graph = record {
  header = refl;
  header_code = refl;
  fits = λ a s. sample_graph.fits a (record { some = s.some; here = s.here });
  below = λ a s. sample_graph.below a (record { some = s.some; here = s.here });
}

pub twice_holds_none : HoldNone sample_types twice
twice_holds_none =
    (faulty_image twice twice_graph).twice 232 176 280 (record { some = omega arith; here = refl })
    (inl (record { holder = record { some = omega arith; here = refl }; names = refl }))
    (inr (2, record { holder = refl; typed = refl; names = refl })) (λ (e : 176 ≡ 280). omega arith)

-- the first course's last class is its first, behind which a twin stands
abbrev middle : Links
middle = record image { last_child = λ a t. cond (a == 136) (cond (t == 2) 176 264) (image.last_child a t) }

middle_graph : IsLinkGraph sample_types 512 middle
middle_graph = record {
  header = refl;
  header_code = refl;
  fits = λ a s. sample_graph.fits a (record { some = s.some; here = s.here });
  below = λ a s. sample_graph.below a (record { some = s.some; here = s.here });
}

pub middle_holds_none : HoldNone sample_types middle
middle_holds_none = (faulty_image middle middle_graph).middle 136 2 refl refl refl (omega arith) (omega arith)

-- the first course names no book
abbrev unnamed : Links
unnamed = record image { first_child = λ a t. cond (a == 136) (cond (t == 2) 176 0) (image.first_child a t); last_child = λ a t. cond (a == 136) (cond (t == 2) 232 0) (image.last_child a t) }

unnamed_graph : IsLinkGraph sample_types 512 unnamed
unnamed_graph = record {
  header = refl;
  header_code = refl;
  fits = λ a s. sample_graph.fits a (record { some = s.some; here = s.here });
  below = λ a s. sample_graph.below a (record { some = s.some; here = s.here });
}

differ : (a b : ℕ) → (a ≡ b → ⊥) → a ≡ b → ⊥
differ a b ne e = ne e

-- no record names the book
no_holder : (h : ℕ) → Precedes sample_types unnamed h 264 → ⊥
no_holder h (inl T) =
    each_place (λ a. unnamed.forward a ≡ 264 → ⊥) (λ (e : 280 ≡ 264). omega arith) (λ (e : 232 ≡ 264). omega arith) (λ (e : 216 ≡ 264). omega arith)
    (λ (e : 0 ≡ 264). omega arith) (λ (e : 0 ≡ 264). omega arith) (λ (e : 0 ≡ 264). omega arith) (λ (e : 0 ≡ 264). omega arith) h
    (record { some = T.holder.some; here = T.holder.here }) T.names
no_holder h (inr P) = elim (zero_or h) [
  | inl z ↦ absurd (differ 136 264 (λ (e : 136 ≡ 264). omega arith) (ap (λ x. unnamed.first_child x P.0) (sym z) ∙ P.1.names))
  | inr some ↦ each_place (λ a. (t : ℕ) → unnamed.first_child a t ≡ 264 → ⊥)
      (λ t e. elim (cases_eq t 2) [
        | inl q ↦ differ 176 264 (λ (e : 176 ≡ 264). omega arith) (sym (cond-true (t == 2) 176 0 (eq-eqb t 2 q)) ∙ e)
        | inr q ↦ differ 0 264 (λ (e : 0 ≡ 264). omega arith) (sym (cond-false (t == 2) 176 0 (ne_eqb t 2 q)) ∙ e)
      ])
      (λ t (e : 200 ≡ 264). omega arith) (λ t (e : 0 ≡ 264). omega arith) (λ t (e : 0 ≡ 264). omega arith) (λ t (e : 0 ≡ 264). omega arith)
      (λ t (e : 0 ≡ 264). omega arith) (λ t (e : 0 ≡ 264). omega arith) h (record { some = some; here = P.1.holder }) P.0 P.1.names
]

unnamed_unreached : (n : ℕ) → IsReached sample_types unnamed n 264 → ⊥
unnamed_unreached zero w = differ 264 0 (λ (e : 264 ≡ 0). omega arith) w
unnamed_unreached (suc n) w = no_holder w.1.0 w.1.2

pub unnamed_holds_none : HoldNone sample_types unnamed
unnamed_holds_none = (faulty_image unnamed unnamed_graph).unreached 264 (record { some = omega arith; here = refl }) unnamed_unreached
