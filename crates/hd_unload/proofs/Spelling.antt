-- Bytes with which nothing is wrong are the spelling of what they say.
use Rattle.std.proofs.Common.{◌≡◌, ℕ, zero, suc, ◌+◌, ◌-◌, ◌<◌, ◌≤◌, ◌^◌, List, [], ◌∷◌, ◌++◌, length, take, drop, get_or, Bool, true, false, cond, Option, Some, None, eqb, refl, sym, ap, ap₂, ◌∙◌, subst, arith}
use Rattle.std.specs.Prelude.{nat_lt, ◌==◌, ◌&&◌}
use Rattle.std.specs.Int.{w16, w32, to_be_bytes, from_be_bytes}
use Rattle.std.proofs.lemmas.Bool.{and_parts, eqb-true}
use Rattle.std.proofs.lemmas.Nat.{be_bytes_2, be_bytes_4}
use Rattle.std.proofs.lemmas.List.{take-append-drop, length-take-le, take_all, length-drop}
use Rattle.std.proofs.lemmas.Slice.Eq.{bytes_eq-Decides}
use Rattle.std.specs.Cmp.Lexicographic.{pointwise}
use Rattle.hd_dbd.specs.Types.{SegmentType}
use Rattle.hd_dbd.specs.Hierarchy.{Database, type_of}
use Rattle.hd_dbd.specs.Rows.{row_fits}
use Rattle.hd_dbd.specs.Lengths.{length_fits}
use Rattle.hd_dbd.proofs.TypeLengths.{type-row}
use Rattle.hd_unload.specs.declared.fault.RecordFault.{RecordFault}
use Rattle.hd_unload.specs.declared.fault.RecordFault.TheVariants.{U2, U4}
use Rattle.hd_unload.specs.Streams.{head_bytes, record_bytes, end_bytes, end_fault, length_said, row_bytes, row_of}

-- a fault is not none
some-none : {A : Type 0} (x : A) → Some x ≡ None → ⊥
some-none x e = cc

-- what is chosen is none where each other choice is a fault
chosen : (b : Bool) (x : RecordFault) (o : Option RecordFault) → cond b (Some x) o ≡ None → (b ≡ false) × (o ≡ None)
chosen true x o e = absurd (some-none x e)
chosen false x o e = (refl, e)

kept : (b : Bool) (x : RecordFault) (o : Option RecordFault) → cond b o (Some x) ≡ None → (b ≡ true) × (o ≡ None)
kept true x o e = (refl, e)
kept false x o e = absurd (some-none x e)

-- the bytes behind the first are bytes
pub behind-first : (bytes : List ℕ) (x : ℕ) (rest : List ℕ) → bytes ≡ x ∷ rest → ((i : ℕ) → get_or bytes i 0 < 256) → (i : ℕ) → get_or rest i 0 < 256
behind-first bytes x rest is all i = subst (λ (xs : List ℕ). get_or xs (suc i) 0 < 256) is (all (suc i))

-- four bytes are a number below 2 to the 32
four-below : (rest : List ℕ) → ((i : ℕ) → get_or rest i 0 < 256) → from_be_bytes w32 rest < 2 ^ 32
four-below rest bytes = omega (arith, bytes 0, bytes 1, bytes 2, bytes 3)

-- an end with which nothing is wrong is that of its number
pub end-right : (count : ℕ) (rest : List ℕ) → ((i : ℕ) → get_or rest i 0 < 256) → end_fault count rest ≡ None → (0 ∷ rest ≡ end_bytes count) × (count < 2 ^ 32)
end-right count rest bytes e =
    let long = chosen (nat_lt (length rest) 4) U2 _ e in
    let both = kept (length rest == 4 && from_be_bytes w32 rest == count) U4 None long.1 in
    let parts = and_parts _ _ both.0 in
    let four : length rest ≡ 4 = eqb-true (length rest) 4 parts.0 in
    let number : from_be_bytes w32 rest ≡ count = eqb-true (from_be_bytes w32 rest) count parts.1 in (
      ap (λ (xs : List ℕ). 0 ∷ xs) (sym (be_bytes_4 rest count four bytes (sym number))),
      subst (λ (n : ℕ). n < 2 ^ 32) number (four-below rest bytes),
    )

-- a record of which all bytes are there is that of its row
pub row-right : (code : ℕ) (rest : List ℕ) → ((i : ℕ) → get_or rest i 0 < 256) → 2 + length_said rest ≤ length rest
    → code ∷ rest ≡ record_bytes (row_of code rest) ++ drop (2 + length_said rest) rest
row-right code [] bytes long = absurd (omega arith)
row-right code (a ∷ []) bytes long = absurd (omega arith)
row-right code (a ∷ b ∷ rs) bytes long =
    let own : ℕ = length_said (a ∷ b ∷ rs) in
    let len : length (take own rs) ≡ own = length-take-le own rs (omega arith) in
    let spelled : to_be_bytes w16 own ≡ a ∷ b ∷ [] = be_bytes_2 (a ∷ b ∷ []) own refl (λ i. two i) refl in
    ap (λ (xs : List ℕ). code ∷ (a ∷ b ∷ xs)) (sym (take-append-drop own rs))
    ∙ ap (λ (xs : List ℕ). code ∷ (xs ++ (take own rs ++ drop own rs))) (sym spelled)
    ∙ ap (λ (n : ℕ). code ∷ (to_be_bytes w16 n ++ (take own rs ++ drop own rs))) (sym len)
    ∙ ap (λ (xs : List ℕ). code ∷ (to_be_bytes w16 (length (take own rs)) ++ (take own rs ++ xs))) (behind-two own)
  where
    behind-two : (n : ℕ) → drop n rs ≡ drop (2 + n) (a ∷ b ∷ rs)
    behind-two n = ap (λ (k : ℕ). drop k (a ∷ b ∷ rs)) (let more : suc (suc n) ≡ 2 + n = omega arith in more)

    two : (i : ℕ) → get_or (a ∷ b ∷ []) i 0 < 256
    two zero = bytes 0
    two (suc zero) = bytes 1
    two (suc (suc i)) = omega arith

-- bytes that begin with a header are it, and what follows
pub head-right : (stream head : List ℕ) → 18 ≤ length stream → pointwise eqb (take 18 stream) head ≡ true → stream ≡ head ++ take (length stream - 18) (drop 18 stream)
head-right stream head long same =
    sym (take-append-drop 18 stream)
    ∙ ap₂ (λ (xs ys : List ℕ). xs ++ ys) ((bytes_eq-Decides (take 18 stream) head).0 same)
    (sym (take_all (length stream - 18) (drop 18 stream) (omega (arith, length-drop 18 stream))))

-- the next record, of which all bytes are there and whose row has a length that its type allows, is that of a row that fits, and what follows
pub next-right : (types : List SegmentType) (left : List ℕ) (x : ℕ) (rest : List ℕ) (t : SegmentType) (code : ℕ) (bytes behind : List ℕ) → left ≡ x ∷ rest → ((i : ℕ) → get_or left i 0 < 256)
    → type_of types x ≡ Some t → length_fits t bytes ≡ true → 2 + length_said rest ≤ length rest → code ≡ x → bytes ≡ row_bytes rest → behind ≡ drop (2 + length_said rest) rest
    → (row_fits types (record { code = code; bytes = bytes }) ≡ true) × (left ≡ record_bytes (record { code = code; bytes = bytes }) ++ behind)
next-right types left x rest t code bytes behind first all typed fits long code-is bytes-is behind-is = (
  type-row types (record { code = code; bytes = bytes }) t (ap (λ (c : ℕ). type_of types c) code-is ∙ typed) fits,
  first ∙ row-right x rest (behind-first left x rest first all) long
      ∙ ap₂ (λ (n : ℕ) (xs : List ℕ). record_bytes (record { code = n; bytes = xs }) ++ drop (2 + length_said rest) rest) (sym code-is) (sym bytes-is)
      ∙ ap (λ (xs : List ℕ). record_bytes (record { code = code; bytes = bytes }) ++ xs) (sym behind-is),
)

-- bytes that begin with a header's bytes
pub head-found : (d : Database) (stream head : List ℕ) → 18 ≤ length stream → true ≡ pointwise eqb (take 18 stream) head → head ≡ head_bytes d
    → stream ≡ head_bytes d ++ take (length stream - 18) (drop 18 stream)
head-found d stream head long same is = head-right stream head long (sym same) ∙ ap (λ (xs : List ℕ). xs ++ take (length stream - 18) (drop 18 stream)) is
