-- What is wrong with a record, from what is wrong with its pointers.
use Rattle.std.proofs.Common.{◌≡◌, ◌≢◌, ◌⊎◌, inl, inr, ℕ, List, [], ◌∷◌, ◌++◌, true, false, Option, Some, None, IfNone, IfSome, sym, ap, subst, ◌∙◌, ne_eqb}
use Rattle.std.specs.Prelude.{◌==◌}
use Rattle.std.proofs.lemmas.Bool.{cond-true, cond-false, cases_Bool}
use Rattle.hd_dbd.specs.Types.{SegmentType}
use Rattle.hd_dbd.specs.Prefixes.{is_backward_kept, children_of}
use Rattle.hd_volume.specs.Headers.{header_of}
use Rattle.hd_volume.specs.Volumes.{VolumeState}
use Rattle.hd_links.specs.Links.{Links, child_types}
use Rattle.hd_image.specs.Records.{links_of}
use Rattle.hd_image.specs.PointerFaults.{Named, child_pointers, twin_pointers, pointers_of}
use Rattle.hd_check_blocks.specs.declared.fault.Fault.{Fault}
use Rattle.hd_check_pointers.specs.declared.record_pointers.Wrong.{Wrong}
use Rattle.hd_check_pointers.specs.Judging.{wrong_among, wrong_or, IsRecordRight, IsWrongRecord}
use Rattle.hd_check_pointers.proofs.WrongLemmas.{among-parts, or-none}
use Rattle.hd_image.specs.declared.line.Line.TheVariants.{NamesAnother, NamesNothing}

-- What a record's fault says of what was found wrong with its pointers.
abbrev pub IsPointerFault : ℕ → Wrong → Fault → Type 0
IsPointerFault a w f =
    ((f ≡ record { line = NamesNothing; address = a; other = w.nowhere }) × (w.nowhere ≢ 0))
    ⊎ ((f ≡ record { line = NamesAnother; address = a; other = w.another }) × (w.nowhere ≡ 0) × (w.another ≢ 0))

-- where nothing is found the record is right
pub right-none : (types : List SegmentType) (m : Links) (h : ℕ) (w : Wrong) (o : Option Fault) → (h ≢ 0 → m.delete_byte h ≡ 0) → w ≡ wrong_among m (pointers_of types m h)
    → IfNone o (w ≡ record { nowhere = 0; another = 0 }) → IfNone o (IsRecordRight types m h)
right-none types m h w None delete is none = record { delete_byte = delete; pointers = sym is ∙ none }
right-none types m h w (Some f) delete is none = tt

-- what is found is wrong with the record
pub wrong-some : (types : List SegmentType) (m : Links) (h : ℕ) (w : Wrong) (o : Option Fault) → (h ≢ 0 → m.delete_byte h ≡ 0) → w ≡ wrong_among m (pointers_of types m h)
    → IfSome o (λ f. IsPointerFault h w f) → IfSome o (λ f. IsWrongRecord types m h f)
wrong-some types m h w None delete is some = tt
wrong-some types m h w (Some f) delete is some = elim (subst (λ (x : Wrong). IsPointerFault h x f) is some) [
  | inl c ↦ inr (inl (c.0, delete, c.1))
  | inr c ↦ inr (inr (c.0, delete, c.1, c.2))
]

-- the header's pointers are first and last root
pub root-pointers : (types : List SegmentType) (v : VolumeState) (first last : ℕ) (w : Wrong) → first ≡ (header_of v.image).first_root → last ≡ (header_of v.image).last_root
    → w ≡ wrong_or (wrong_among (links_of types v) (record { address = first; type_code = 1 } ∷ [])) (wrong_among (links_of types v) (record { address = last; type_code = 1 } ∷ []))
    → w ≡ wrong_among (links_of types v) (pointers_of types (links_of types v) 0)
root-pointers types v first last w f l is =
    is ∙ sym (among-parts (links_of types v) (record { address = first; type_code = 1 } ∷ []) (record { address = last; type_code = 1 } ∷ []))
    ∙ ap (λ (x : ℕ). wrong_among (links_of types v) (record { address = x; type_code = 1 } ∷ record { address = last; type_code = 1 } ∷ [])) f
    ∙ ap (λ (x : ℕ). wrong_among (links_of types v) (record { address = (header_of v.image).first_root; type_code = 1 } ∷ record { address = x; type_code = 1 } ∷ [])) l

-- a segment's pointers are those to its twins, and those to its children
pub segment-pointers : (types : List SegmentType) (m : Links) (a : ℕ) (forward backward : ℕ) (w : Wrong) → a ≢ 0 → m.code a ≢ 0 → forward ≡ m.forward a
    → (is_backward_kept types (m.code a) ≡ true → backward ≡ m.backward a) → (is_backward_kept types (m.code a) ≡ false → backward ≡ 0)
    → w ≡ wrong_or (wrong_or (wrong_among m (record { address = forward; type_code = m.code a } ∷ [])) (wrong_among m (record { address = backward; type_code = m.code a } ∷ [])))
    (wrong_among m (child_pointers types m a (children_of types (m.code a))))
    → w ≡ wrong_among m (pointers_of types m a)
segment-pointers types m a forward backward w some typed f kept other is =
    let F : Named = record { address = forward; type_code = m.code a } in
    let B : Named = record { address = backward; type_code = m.code a } in
    let C : List Named = child_pointers types m a (children_of types (m.code a)) in
    let all : pointers_of types m a ≡ twin_pointers types m a ++ C =
    cond-false (a == 0) _ (twin_pointers types m a ++ child_pointers types m a (child_types types (m.code a))) (ne_eqb a 0 some)
    ∙ ap (λ (ts : List ℕ). twin_pointers types m a ++ child_pointers types m a ts) (cond-false (m.code a == 0) (1 ∷ []) (children_of types (m.code a)) (ne_eqb (m.code a) 0 typed)) in
    let twins : wrong_or (wrong_among m (F ∷ [])) (wrong_among m (B ∷ [])) ≡ wrong_among m (twin_pointers types m a) =
    elim (cases_Bool (is_backward_kept types (m.code a))) [
      | inl k ↦
          sym (among-parts m (F ∷ []) (B ∷ []))
          ∙ ap (λ (x : ℕ). wrong_among m (record { address = x; type_code = m.code a } ∷ B ∷ [])) f
          ∙ ap (λ (x : ℕ). wrong_among m (record { address = m.forward a; type_code = m.code a } ∷ record { address = x; type_code = m.code a } ∷ [])) (kept k)
          ∙ ap (λ (ps : List Named). wrong_among m (record { address = m.forward a; type_code = m.code a } ∷ ps)) (sym (cond-true (is_backward_kept types (m.code a)) (record { address = m.backward a; type_code = m.code a } ∷ []) [] k))
      | inr k ↦
          ap (λ (x : ℕ). wrong_or (wrong_among m (F ∷ [])) (wrong_among m (record { address = x; type_code = m.code a } ∷ []))) (other k)
          ∙ or-none (wrong_among m (F ∷ []))
          ∙ ap (λ (x : ℕ). wrong_among m (record { address = x; type_code = m.code a } ∷ [])) f
          ∙ ap (λ (ps : List Named). wrong_among m (record { address = m.forward a; type_code = m.code a } ∷ ps)) (sym (cond-false (is_backward_kept types (m.code a)) (record { address = m.backward a; type_code = m.code a } ∷ []) [] k))
    ] in
    is ∙ ap (λ (x : Wrong). wrong_or x (wrong_among m C)) twins ∙ sym (among-parts m (twin_pointers types m a) C) ∙ ap (wrong_among m) (sym all)
