-- The bytes that hexadecimal digits spell, from one pair to the next.
use Rattle.std.proofs.Common.{◌≡◌, ℕ, ◌-◌, ◌<◌, ◌≤◌, List, [], ◌∷◌, ◌++◌, length, get_or, take, drop, Option, None, Some, option_map, refl, ap, sym, ◌∙◌, arith, append_assoc, true, false, Ok, Err}
use Rattle.std.proofs.Math.Seq.{take-length, take-append_seam}
use Rattle.std.specs.Prelude.{option_and_then, unwrap_or, ◌==◌}
use Rattle.std.specs.Option.{is_some, is_none, option_map_or}
use Rattle.std.proofs.lemmas.List.{append-nil}
use Rattle.hd_deck.specs.Deck.{hex_byte, hex_bytes, read_hex, area_bytes}
use Rattle.hd_deck.specs.Lines.{kind_in}
use Rattle.hd_deck.specs.declared.deck.DeckFault.TheVariants.{K7}
use Rattle.hd_deck.specs.declared.line.Statement.TheVariants as variants

-- a byte behind others is in front of what follows
byte_between : (done : List ℕ) (byte : ℕ) (o : Option (List ℕ)) → option_map (λ others. (done ++ byte ∷ []) ++ others) o ≡ option_map (λ others. done ++ others) (option_map (λ others. byte ∷ others) o)
byte_between done byte None = refl
byte_between done byte (Some more) = ap Some (append_assoc done (byte ∷ []) more)

-- the bytes so far, one more pair's and those of the digits behind it are the bytes of all digits
pub one_more_byte : (done rest : List ℕ) (byte : ℕ) (new : List ℕ) (total : Option (List ℕ)) → 1 < length rest → hex_byte (get_or rest 0 0) (get_or rest 1 0) ≡ Some byte → new ≡ done ++ byte ∷ []
    → option_map (λ others. done ++ others) (hex_bytes rest) ≡ total → option_map (λ others. new ++ others) (hex_bytes (take (length rest - 2) (drop 2 rest))) ≡ total
one_more_byte done [] byte new total long is adds so_far = absurd (omega arith)
one_more_byte done (a ∷ []) byte new total long is adds so_far = absurd (omega arith)
one_more_byte done (a ∷ b ∷ more) byte new total long is adds so_far =
    let short : length (a ∷ b ∷ more) - 2 ≡ length more = omega arith in
    ap (λ (k : ℕ). option_map (λ others. new ++ others) (hex_bytes (take k more))) short
    ∙ ap (λ (rest : List ℕ). option_map (λ others. new ++ others) (hex_bytes rest)) (take-length more)
    ∙ ap (λ (front : List ℕ). option_map (λ others. front ++ others) (hex_bytes more)) adds
    ∙ byte_between done byte (hex_bytes more)
    ∙ ap (λ (o : Option ℕ). option_map (λ others. done ++ others) (option_and_then (λ b. option_map (λ others. b ∷ others) (hex_bytes more)) o)) (sym is)
    ∙ so_far

-- ---- whether digits spell bytes

-- a pair that spells a byte says nothing of those behind it
pub pair_spells : (rest : List ℕ) → 1 < length rest → is_none (hex_byte (get_or rest 0 0) (get_or rest 1 0)) ≡ false → is_some (hex_bytes (take (length rest - 2) (drop 2 rest))) ≡ is_some (hex_bytes rest)
pair_spells [] long some = absurd (omega arith)
pair_spells (a ∷ []) long some = absurd (omega arith)
pair_spells (a ∷ b ∷ more) long some =
    let short : length (a ∷ b ∷ more) - 2 ≡ length more = omega arith in
    ap (λ (k : ℕ). is_some (hex_bytes (take k more))) short ∙ ap (λ (rest : List ℕ). is_some (hex_bytes rest)) (take-length more) ∙ behind (hex_byte a b) (hex_bytes more) some
  where
    behind : (o : Option ℕ) (others : Option (List ℕ)) → is_none o ≡ false → is_some others ≡ is_some (option_and_then (λ byte. option_map (λ others. byte ∷ others) others) o)
    behind None others e = absurd (cc)
    behind (Some byte) None e = refl
    behind (Some byte) (Some bytes) e = refl

-- digits with a pair in front that spells none spell no bytes
pub pair_fails : (rest : List ℕ) → 1 < length rest → hex_byte (get_or rest 0 0) (get_or rest 1 0) ≡ None → hex_bytes rest ≡ None
pair_fails [] long none = absurd (omega arith)
pair_fails (a ∷ []) long none = absurd (omega arith)
pair_fails (a ∷ b ∷ more) long none = ap (λ (o : Option ℕ). option_and_then (λ b. option_map (λ others. b ∷ others) (hex_bytes more)) o) none

-- what is no pair spells no bytes, or none at all
pub no_pair : (rest : List ℕ) → length rest ≤ 1 → is_some (hex_bytes rest) ≡ (length rest == 0)
no_pair [] short = refl
no_pair (a ∷ []) short = refl
no_pair (a ∷ b ∷ more) short = absurd (omega arith)

-- ---- bytes behind others

-- Some bytes were put behind others, and with those of the digits that are left they are those of all.
pub record IsSpelling (old items rest digits : List ℕ) : Type 0 where
  pub done : List ℕ
  pub behind : items ≡ old ++ done
  pub spelled : option_map (λ others. done ++ others) (hex_bytes rest) ≡ hex_bytes digits

pub none_done : (old digits : List ℕ) → IsSpelling old old digits digits
none_done old digits = record { done = []; behind = sym (append-nil old); spelled = same (hex_bytes digits) } where
  same : (o : Option (List ℕ)) → option_map (λ (others : List ℕ). [] ++ others) o ≡ o
  same None = refl
  same (Some bytes) = refl

pub byte_done : (old items new rest digits : List ℕ) (byte : ℕ) → 1 < length rest → hex_byte (get_or rest 0 0) (get_or rest 1 0) ≡ Some byte → new ≡ items ++ byte ∷ [] → IsSpelling old items rest digits
    → IsSpelling old new (take (length rest - 2) (drop 2 rest)) digits
byte_done old items new rest digits byte long is adds s = record {
  done = s.done ++ byte ∷ [];
  behind = adds ∙ ap (λ (l : List ℕ). l ++ byte ∷ []) s.behind ∙ append_assoc old s.done (byte ∷ []);
  spelled = one_more_byte s.done rest byte (s.done ++ byte ∷ []) (hex_bytes digits) long is refl s.spelled;
}

-- where the digits that are left spell none, what was before is left
pub none_spelled : (old items rest digits new : List ℕ) (before : ℕ) → before ≡ length old → hex_bytes rest ≡ None → new ≡ take before items → IsSpelling old items rest digits → new ≡ old ++ unwrap_or (hex_bytes digits) []
none_spelled old items rest digits new before count none cut s =
    cut ∙ ap (λ (k : ℕ). take k items) count ∙ ap (take (length old)) s.behind ∙ take-append_seam old s.done ∙ sym (append-nil old)
    ∙ ap (λ (o : Option (List ℕ)). old ++ unwrap_or o []) (sym (sym s.spelled ∙ ap (option_map (λ others. s.done ++ others)) none))

-- where none are left, the bytes of all are there
pub all_spelled : (old items rest digits : List ℕ) → length rest ≡ 0 → IsSpelling old items rest digits → items ≡ old ++ unwrap_or (hex_bytes digits) []
all_spelled old items [] digits none s = s.behind ∙ ap (λ (l : List ℕ). old ++ l) (sym (append-nil s.done)) ∙ ap (λ (o : Option (List ℕ)). old ++ unwrap_or o []) s.spelled
all_spelled old items (a ∷ rest) digits none s = absurd (omega arith)

-- one digit that is left spells none
pub digit_left : (rest : List ℕ) → length rest ≡ 1 → hex_bytes rest ≡ None
digit_left [] one = absurd (omega arith)
digit_left (a ∷ []) one = refl
digit_left (a ∷ b ∷ more) one = absurd (omega arith)

-- ---- lines with digits

by_bytes : (n : ℕ) (o : Option (List ℕ)) → is_some o ≡ true → kind_in (option_map_or (λ bytes. Ok (area_bytes bytes)) o (Err (K7 n))) ≡ Ok variants.Bytes
by_bytes n None some = absurd (cc)
by_bytes n (Some bytes) some = refl

by_none : (n : ℕ) (o : Option (List ℕ)) → is_some o ≡ false → option_map_or (λ bytes. Ok (area_bytes bytes)) o (Err (K7 n)) ≡ Err (K7 n)
by_none n None none = refl
by_none n (Some bytes) none = absurd (cc)

-- a line with digits that spell bytes is read
pub hex_is_read : (n : ℕ) (line : List ℕ) → is_some (hex_bytes (drop 1 line)) ≡ true → kind_in (read_hex n line) ≡ Ok variants.Bytes
hex_is_read n line some = by_bytes n (hex_bytes (drop 1 line)) some

-- one with others is not
pub hex_is_not : (n : ℕ) (line : List ℕ) → is_some (hex_bytes (drop 1 line)) ≡ false → read_hex n line ≡ Err (K7 n)
hex_is_not n line none = by_none n (hex_bytes (drop 1 line)) none
