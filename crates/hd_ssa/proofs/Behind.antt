-- What a text means whose name has a code is what stands behind the name.
use Rattle.std.proofs.Common.{◌≡◌, ◌<◌, ◌≤◌, ◌-◌, length, get_or, arith, false, ℕ, List, [], ◌∷◌, take, drop, Bool, true, Option, Some, None, Result, Ok, Err, ap, ◌∙◌, sym, refl, cond}
use Rattle.std.specs.Prelude.{◌==◌, slice_get, is_some, option_map, option_and_then}
use Rattle.std.specs.Option.{option_map_or}
use Rattle.std.specs.Result.{result_ok}
use Rattle.std.proofs.lemmas.Bool.{ne_eqb}
use Rattle.std.proofs.lemmas.Option.{none-some, same_Some, slice_get_read}
use Rattle.hd_dbd.specs.Types.{SegmentType}
use Rattle.hd_dbd.specs.Naming.{is_name}
use Rattle.hd_dbd.specs.Hierarchy.{type_of}
use Rattle.hd_dbd.specs.Views.{Setting}
use Rattle.hd_dbd.specs.declared.answer.Status.{Status}
use Rattle.hd_dbd.specs.declared.answer.Status.TheVariants.{AC}
use Rattle.hd_calls.specs.declared.call.Commands.{Commands}
use Rattle.hd_calls.specs.Functions.{result_and_then}
use Rattle.hd_calls.specs.Ssas.{Comparison, Head, Ssa, commands_among, commands_length, head_ending, read_qualification, read_ssa, ssa_of}
use Rattle.hd_ssa.specs.Named.{named, code_below}
use Rattle.hd_ssa.specs.AtOnce.{head_with_name, read_below, read_behind, read_typed, seen_below}

-- a head has the name with which it was begun
ending_name : (name : List ℕ) (commands : Commands) (bytes : List ℕ) (h : Head) → head_ending name commands bytes ≡ Some h → name ≡ h.name
ending_name name commands [] h is = ap (λ (h : Head). h.name) (same_Some (record { name = name; commands = commands; qualification = None }) h is)
ending_name name commands (b ∷ bs) h is = by (b == 32) (b == 40) is
  where
    by : (blank bracket : Bool) → cond blank (Some (record { name = name; commands = commands; qualification = None })) (cond bracket (Some (record { name = name; commands = commands; qualification = Some bs })) None) ≡ Some h → name ≡ h.name
    by true bracket is = ap (λ (h : Head). h.name) (same_Some (record { name = name; commands = commands; qualification = None }) h is)
    by false true is = ap (λ (h : Head). h.name) (same_Some (record { name = name; commands = commands; qualification = Some bs }) h is)
    by false false is = absurd (none-some h is)

module _ (s : Setting) (above : Option ℕ) where
  -- what a head means whose type is below another
  abbrev meant : Option Head → Option Ssa
  meant o = option_and_then (λ n. option_and_then (λ c. result_ok (read_ssa s c n.head)) (code_below s.types above n)) (option_map (λ h. named s h) o)

  -- nothing is read of a text whose name has no code
  pub unseen : (text : List ℕ) → seen_below s above (take 8 text) ≡ None → read_below s above text ≡ None
  unseen text none = by_name (is_name (take 8 text))
    where
      by_head : (o : Option Head) → head_with_name (take 8 text) (drop 8 text) ≡ o → meant o ≡ None
      by_head None e = refl
      by_head (Some h) e =
          ap (λ (o : Option ℕ). option_and_then (λ c. result_ok (read_ssa s c (record h { name = [] }))) o)
          (ap (λ (name : List ℕ). seen_below s above name)
          (sym (ending_name (take 8 text) (commands_among (take (commands_length (drop 8 text)) (drop 8 text))) (drop (commands_length (drop 8 text)) (drop 8 text)) h e)) ∙ none)

      by_name : (b : Bool) → meant (cond b (head_with_name (take 8 text) (drop 8 text)) None) ≡ None
      by_name true = by_head (head_with_name (take 8 text) (drop 8 text)) refl
      by_name false = refl

  -- a head of a name that has a code
  ending_meant : (name : List ℕ) (t : SegmentType) (c : ℕ) (commands : Commands) (bytes : List ℕ) → seen_below s above name ≡ Some c → type_of s.types c ≡ Some t
      → meant (head_ending name commands bytes) ≡ option_and_then (λ h. result_ok (read_typed t c h)) (head_ending t.name commands bytes)
  ending_meant name t c commands [] seen typed =
      ap (λ (o : Option ℕ). option_and_then (λ c. result_ok (read_ssa s c (record { name = []; commands = commands; qualification = None }))) o) seen
  ending_meant name t c commands (b ∷ bs) seen typed = by (b == 32) (b == 40)
    where
      by : (blank bracket : Bool)
          → meant (cond blank (Some (record { name = name; commands = commands; qualification = None })) (cond bracket (Some (record { name = name; commands = commands; qualification = Some bs })) None))
          ≡ option_and_then (λ h. result_ok (read_typed t c h)) (cond blank (Some (record { name = t.name; commands = commands; qualification = None })) (cond bracket (Some (record { name = t.name; commands = commands; qualification = Some bs })) None))
      by true bracket = ap (λ (o : Option ℕ). option_and_then (λ c. result_ok (read_ssa s c (record { name = []; commands = commands; qualification = None }))) o) seen
      by false true =
          ap (λ (o : Option ℕ). option_and_then (λ c. result_ok (read_ssa s c (record { name = []; commands = commands; qualification = Some bs }))) o) seen
          ∙ ap (λ (o : Option SegmentType). result_ok (option_map_or (λ t. result_and_then (read_qualification t bs) (λ groups. Ok (ssa_of c (record { name = []; commands = commands; qualification = Some bs }) (Some groups)))) o (Err AC))) typed
      by false false = refl

  below_behind : (text : List ℕ) (t : SegmentType) (c : ℕ) → is_name (take 8 text) ≡ true → seen_below s above (take 8 text) ≡ Some c → type_of s.types c ≡ Some t
      → read_below s above text ≡ read_behind t c (drop 8 text)
  below_behind text t c name seen typed =
      ap (λ (b : Bool). meant (cond b (head_with_name (take 8 text) (drop 8 text)) None)) name
      ∙ ending_meant (take 8 text) t c (commands_among (take (commands_length (drop 8 text)) (drop 8 text))) (drop (commands_length (drop 8 text)) (drop 8 text)) seen typed

-- the type at the place of a code
typed_at : (types : List SegmentType) (c : ℕ) (t : SegmentType) → 0 < c → c ≤ length types → t ≡ get_or types (c - 1) t → type_of types c ≡ Some t
typed_at types c t more within is =
    ap (λ (b : Bool). cond b None (slice_get types (c - 1))) (ne_eqb c 0 (λ e. omega arith)) ∙ slice_get_read types (length types) (c - 1) t refl (omega arith) is

-- a text, by what it was divided into and by its type
pub below_is : (s : Setting) (above : Option ℕ) (text name behind : List ℕ) (types : List SegmentType) (t : SegmentType) (c : ℕ) → name ≡ take 8 text → behind ≡ drop 8 text → is_name name ≡ true
    → Some c ≡ seen_below s above name → (0 < c) × (c ≤ length s.types) → types ≡ s.types → t ≡ get_or types (c - 1) t → read_below s above text ≡ read_behind t c behind
below_is s above text name behind types t c named rest is seen bound all at_place =
    below_behind s above text t c (ap (λ (n : List ℕ). is_name n) (sym named) ∙ is) (ap (λ (n : List ℕ). seen_below s above n) (sym named) ∙ sym seen)
    (typed_at s.types c t bound.0 bound.1 (at_place ∙ ap (λ (ts : List SegmentType). get_or ts (c - 1) t) all))
    ∙ ap (λ (bytes : List ℕ). read_behind t c bytes) (sym rest)

-- what stands behind a name has the code for which it was read
pub behind_code : (t : SegmentType) (c : ℕ) (behind : List ℕ) → option_map (λ a. a.code) (read_behind t c behind) ≡ cond (is_some (read_behind t c behind)) (Some c) None
behind_code t c behind = by_head (head_with_name t.name behind)
  where
    by_groups : (h : Head) (r : Result (List (List Comparison)) Status)
        → option_map (λ a. a.code) (result_ok (result_and_then r (λ groups. Ok (ssa_of c h (Some groups))))) ≡ cond (is_some (result_ok (result_and_then r (λ groups. Ok (ssa_of c h (Some groups)))))) (Some c) None
    by_groups h (Ok groups) = refl
    by_groups h (Err e) = refl

    by_text : (h : Head) (o : Option (List ℕ))
        → option_map (λ a. a.code) (result_ok (option_map_or (λ text. result_and_then (read_qualification t text) (λ groups. Ok (ssa_of c h (Some groups)))) o (Ok (ssa_of c h None))))
        ≡ cond (is_some (result_ok (option_map_or (λ text. result_and_then (read_qualification t text) (λ groups. Ok (ssa_of c h (Some groups)))) o (Ok (ssa_of c h None))))) (Some c) None
    by_text h (Some text) = by_groups h (read_qualification t text)
    by_text h None = refl

    by_head : (o : Option Head) → option_map (λ a. a.code) (option_and_then (λ h. result_ok (read_typed t c h)) o) ≡ cond (is_some (option_and_then (λ h. result_ok (read_typed t c h)) o)) (Some c) None
    by_head None = refl
    by_head (Some h) = by_text h h.qualification
