-- Arguments that are read one by one mean what all of them mean at once.
use Rattle.std.proofs.Common.{append_assoc, ◌≡◌, ◌<◌, ◌≤◌, ℕ, suc, ◌+◌, ◌-◌, ◌&&◌, ◌||◌, ap₂, List, [], ◌∷◌, ◌++◌, map, drop, get_or, length, Bool, true, false, Option, Some, None, Result, Ok, Err, ap, ◌∙◌, sym, refl, subst, cond, arith}
use Rattle.std.specs.Global.{Vec}
use Rattle.std.proofs.lemmas.List.{drop_more, drop-map, length-map, length-append}
use Rattle.std.proofs.lemmas.List.Folds.{list_all-map}
use Rattle.std.specs.Prelude.{option_map, option_and_then, nat_le, not, is_none}
use Rattle.std.specs.Option.{option_map_or, ok_or, option_to_list}
use Rattle.std.specs.List.{list_all}
use Rattle.std.specs.Result.{result_ok}
use Rattle.std.proofs.lemmas.Grind.{common_steps}
use Rattle.std.proofs.lemmas.Bool.{le-leb}
use Rattle.std.proofs.lemmas.Option.{none-some, option_and_then_some}
use Rattle.hd_dbd.specs.Types.{SegmentType}
use Rattle.hd_dbd.specs.Hierarchy.{is_under, type_of}
use Rattle.hd_dbd.specs.Views.{Setting}
use Rattle.hd_dbd.specs.declared.answer.Status.{Status}
use Rattle.hd_dbd.specs.declared.answer.Status.TheVariants.{AC, AJ}
use Rattle.hd_calls.specs.declared.call.Function.{Function}
use Rattle.hd_calls.specs.declared.call.Function.TheVariants.{Get, Insert, Replace, Delete}
use Rattle.hd_calls.specs.Access.{seen_code, loads}
use Rattle.hd_calls.specs.declared.call.Commands.{Commands}
use Rattle.hd_calls.specs.Functions.{result_and_then}
use Rattle.hd_calls.specs.Ssas.{Comparison, Head, Ssa, read_head, read_heads, codes_below, codes_of, heads_suit, types_suit, read_qualification, read_ssa, read_ssas, resolve, ssa_of, unqualified, steps_down, first_inserted, first_inserted_head, first_inserted_of}
use Rattle.hd_ssa.specs.Named.{named, code_below}
use Rattle.hd_ssa.specs.AtOnce.{read_below, read_down, are_unqualified, are_steps_down, suits}

-- The heads of texts that are read one by one, and the codes of their types.
record IsReadAs (s : Setting) (above : Option ℕ) (texts : List (List ℕ)) (ssas : List Ssa) : Type 0 where
  heads : List Head
  codes : List ℕ
  read : read_heads texts ≡ Some heads
  below : codes_below s above heads ≡ Some codes
  meant : read_ssas s codes heads ≡ Ok ssas
  count : length heads ≡ length texts
  commands : map (λ h. h.commands) heads ≡ map (λ a. a.commands) ssas
  free : map (λ h. is_none h.qualification) heads ≡ map (λ a. is_none a.groups) ssas
  coded : codes ≡ map (λ a. a.code) ssas

some_is : {X : Type 0} (x y : X) → Some x ≡ Some y → x ≡ y
some_is x y is = ap (λ o. option_map_or (λ z. z) o x) is

ok_is : (r : Result Ssa Status) (a : Ssa) → result_ok r ≡ Some a → r ≡ Ok a
ok_is (Ok x) a is = ap (λ (x : Ssa). Ok x) (some_is x a is)
ok_is (Err e) a is = absurd (none-some a is)

ok_of : (r : Result Ssa Status) (a b : Ssa) → r ≡ Ok a → r ≡ Ok b → a ≡ b
ok_of r a b one other = some_is a b (ap (λ (r : Result Ssa Status). result_ok r) (sym one ∙ other))

module _ (s : Setting) where
  -- an argument is made of the code for which it was read, of the head's command codes, and of groups just where the head has a qualification
  made_of : (c : ℕ) (h : Head) (a : Ssa) → read_ssa s c h ≡ Ok a → (groups : Option (List (List Comparison))) × (ssa_of c h groups ≡ a) × (is_none h.qualification ≡ is_none groups)
  made_of c h a is = by_text h.qualification is
    where
      by_groups : (r : Result (List (List Comparison)) Status) → result_and_then r (λ groups. Ok (ssa_of c h (Some groups))) ≡ Ok a
          → (groups : Option (List (List Comparison))) × (ssa_of c h groups ≡ a) × (false ≡ is_none groups)
      by_groups (Ok groups) is = (Some groups, ok_of (Ok a) (ssa_of c h (Some groups)) a (sym is) refl, refl)
      by_groups (Err e) is = absurd (none-some a (ap (λ (r : Result Ssa Status). result_ok r) is))

      by_type : (text : List ℕ) (o : Option SegmentType) → option_map_or (λ t. result_and_then (read_qualification t text) (λ groups. Ok (ssa_of c h (Some groups)))) o (Err AC) ≡ Ok a
          → (groups : Option (List (List Comparison))) × (ssa_of c h groups ≡ a) × (false ≡ is_none groups)
      by_type text (Some t) is = by_groups (read_qualification t text) is
      by_type text None is = absurd (none-some a (ap (λ (r : Result Ssa Status). result_ok r) is))

      by_text : (o : Option (List ℕ)) → option_map_or (λ text. option_map_or (λ t. result_and_then (read_qualification t text) (λ groups. Ok (ssa_of c h (Some groups)))) (type_of s.types c) (Err AC)) o (Ok (ssa_of c h None)) ≡ Ok a
          → (groups : Option (List (List Comparison))) × (ssa_of c h groups ≡ a) × (is_none o ≡ is_none groups)
      by_text (Some text) is = by_type text (type_of s.types c) is
      by_text None is = (None, ok_of (Ok a) (ssa_of c h None) a (sym is) refl, refl)

  -- a type's code, where it is below the one above
  abbrev is_below : Option ℕ → ℕ → Bool
  is_below above c = option_map_or (λ p. is_under s.types c p) above true

  -- the code that was tested is the one seen
  seen_is : (above : Option ℕ) (h : Head) (c : ℕ) → code_below s.types above (named s h) ≡ Some c → (seen_code s h.name ≡ Some c) × (is_below above c ≡ true)
  seen_is above h c is = by_code (seen_code s h.name) is
    where
      by_test : (d : ℕ) (b : Bool) → is_below above d ≡ b → cond b (Some d) None ≡ Some c → (Some d ≡ Some c) × (is_below above c ≡ true)
      by_test d true below same = (same, ap (λ (n : ℕ). is_below above n) (sym (some_is d c same)) ∙ below)
      by_test d false below same = absurd (none-some c same)

      by_code : (o : Option ℕ) → option_and_then (λ c. cond (is_below above c) (Some c) None) o ≡ Some c → (o ≡ Some c) × (is_below above c ≡ true)
      by_code (Some d) is = by_test d (is_below above d) refl is
      by_code None is = absurd (none-some c is)

  -- a text and those behind it
  longer : (above : Option ℕ) (t : List ℕ) (texts : List (List ℕ)) (a : Ssa) (more : List Ssa) (h : Head) (c : ℕ)
      → read_head t ≡ Some h → code_below s.types above (named s h) ≡ Some c → read_ssa s c h ≡ Ok a → IsReadAs s (Some a.code) texts more → IsReadAs s above (t ∷ texts) (a ∷ more)
  longer above t texts a more h c head code meant rest =
      let seen = seen_is above h c code in
      let made = made_of c h a meant in
      let same_code : c ≡ a.code = ap (λ (a : Ssa). a.code) made.1 in
      let same_commands : h.commands ≡ a.commands = ap (λ (a : Ssa). a.commands) made.1 in
      let same_free : is_none h.qualification ≡ is_none a.groups = made.2 ∙ ap (λ (a : Ssa). is_none a.groups) made.1 in
      record {
        heads = h ∷ rest.heads;
        codes = c ∷ rest.codes;
        read = ap (λ (o : Option Head). option_and_then (λ h. option_map (λ hs. h ∷ hs) (read_heads texts)) o) head ∙ ap (λ (o : Option (List Head)). option_map (λ hs. h ∷ hs) o) rest.read;
        below = ap (λ (o : Option ℕ). option_and_then (λ c. cond (is_below above c) (option_map (λ cs. c ∷ cs) (codes_below s (Some c) rest.heads)) None) o) seen.0
            ∙ ap (λ (b : Bool). cond b (option_map (λ cs. c ∷ cs) (codes_below s (Some c) rest.heads)) None) seen.1
            ∙ ap (λ (n : ℕ). option_map (λ cs. c ∷ cs) (codes_below s (Some n) rest.heads)) same_code
            ∙ ap (λ (o : Option (List ℕ)). option_map (λ cs. c ∷ cs) o) rest.below;
        meant = ap (λ (r : Result Ssa Status). result_and_then r (λ a. result_and_then (read_ssas s rest.codes rest.heads) (λ more. Ok (a ∷ more)))) meant
            ∙ ap (λ (r : Result (List Ssa) Status). result_and_then r (λ more. Ok (a ∷ more))) rest.meant;
        count = ap (λ (n : ℕ). suc n) rest.count;
        commands = ap₂ (λ x xs. x ∷ xs) same_commands rest.commands;
        free = ap₂ (λ x xs. x ∷ xs) same_free rest.free;
        coded = ap₂ (λ x xs. x ∷ xs) same_code rest.coded;
      }

  read_as : (texts : List (List ℕ)) (above : Option ℕ) (ssas : List Ssa) → read_down s above texts ≡ Some ssas → IsReadAs s above texts ssas
  read_as [] above ssas is = subst (λ (xs : List Ssa). IsReadAs s above [] xs) (some_is [] ssas is) (record { heads = []; codes = []; read = refl; below = refl; meant = refl; count = refl; commands = refl; free = refl; coded = refl })
  read_as (t ∷ texts) above ssas is =
      option_and_then_some (λ a. option_map (λ more. a ∷ more) (read_down s (Some a.code) texts)) (read_below s above t) ssas is (λ a below rest.
      by_head (read_as texts) a (read_head t) refl below rest)
    where
      by_rest : ((c : Option ℕ) (more : List Ssa) → read_down s c texts ≡ Some more → IsReadAs s c texts more) → (a : Ssa) (h : Head) (c : ℕ) → read_head t ≡ Some h → code_below s.types above (named s h) ≡ Some c → read_ssa s c h ≡ Ok a → (o : Option (List Ssa)) → read_down s (Some a.code) texts ≡ o
          → option_map (λ more. a ∷ more) o ≡ Some ssas → IsReadAs s above (t ∷ texts) ssas
      by_rest again a h c head code meant (Some more) down same =
          subst (λ (xs : List Ssa). IsReadAs s above (t ∷ texts) xs) (some_is (a ∷ more) ssas same) (longer above t texts a more h c head code meant (again (Some a.code) more down))
      by_rest again a h c head code meant None down same = absurd (none-some ssas same)

      by_head : ((c : Option ℕ) (more : List Ssa) → read_down s c texts ≡ Some more → IsReadAs s c texts more) → (a : Ssa) (o : Option Head) → read_head t ≡ o → option_and_then (λ n. option_and_then (λ c. result_ok (read_ssa s c n.head)) (code_below s.types above n)) (option_map (λ h. named s h) o) ≡ Some a
          → option_map (λ more. a ∷ more) (read_down s (Some a.code) texts) ≡ Some ssas → IsReadAs s above (t ∷ texts) ssas
      by_head again a (Some h) head coded rest =
          option_and_then_some (λ c. result_ok (read_ssa s c h)) (code_below s.types above (named s h)) a coded (λ c code meant.
          by_rest again a h c head code (ok_is (read_ssa s c h) a meant) (read_down s (Some a.code) texts) refl rest)
      by_head again a None head coded rest = absurd (none-some a coded)

-- ---- what a function may have

three : (a b c : Bool) → (a && b && c) ≡ true → ((a && b) ≡ true) × (c ≡ true)
three true true true h = (refl, refl)
three true true false h = cc
three true false c h = cc
three false b c h = cc

module _ (s : Setting) (above : Option ℕ) (texts : List (List ℕ)) (ssas : List Ssa) (r : IsReadAs s above texts ssas) where
  inserted_same : first_inserted_head r.heads ≡ first_inserted ssas
  inserted_same = ap first_inserted_of r.commands

  count_same : length r.heads ≡ length ssas
  count_same =
      sym (length-map r.heads (λ h. h.commands)) ∙ ap (λ (cs : List Commands). length cs) r.commands ∙ length-map ssas (λ a. a.commands)

  -- the heads from a place on have no qualification just where the arguments have none
  free_from : (n : ℕ) → unqualified (drop n r.heads) ≡ are_unqualified (drop n ssas)
  free_from n =
      sym (list_all-map (λ (b : Bool). b) (λ (h : Head). is_none h.qualification) (drop n r.heads))
      ∙ ap (λ (bs : List Bool). list_all (λ b. b) bs)
      (sym (drop-map (λ (h : Head). is_none h.qualification) n r.heads) ∙ ap (λ (bs : List Bool). drop n bs) r.free ∙ drop-map (λ (a : Ssa). is_none a.groups) n ssas)
      ∙ list_all-map (λ (b : Bool). b) (λ (a : Ssa). is_none a.groups) (drop n ssas)

  insert_heads : heads_suit s Insert r.heads ≡ (are_unqualified (drop (first_inserted ssas) ssas) && (not (loads s.pcb) || nat_le (length ssas) 1))
  insert_heads =
      ap₂ (λ (a : Bool) (n : ℕ). a && (not (loads s.pcb) || nat_le n 1))
      (free_from (first_inserted_head r.heads) ∙ ap (λ (n : ℕ). are_unqualified (drop n ssas)) inserted_same) count_same

  insert_types : types_suit s Insert r.heads r.codes ≡ are_steps_down s.types (drop (first_inserted ssas - 1) ssas)
  insert_types =
      ap₂ (λ (n : ℕ) (cs : List ℕ). steps_down s.types None (drop (n - 1) cs)) inserted_same r.coded
      ∙ ap (λ (cs : List ℕ). steps_down s.types None cs) (drop-map (λ (a : Ssa). a.code) (first_inserted ssas - 1) ssas)

  -- where a function may have the arguments, it may have their heads and their types
  suited : (f : Function) → suits s f ssas ≡ true → (heads_suit s f r.heads ≡ true) × (types_suit s f r.heads r.codes ≡ true)
  suited (Get kind hold) is = (refl, refl)
  suited Insert is =
      let parts = three (are_unqualified (drop (first_inserted ssas) ssas)) (not (loads s.pcb) || nat_le (length ssas) 1) (are_steps_down s.types (drop (first_inserted ssas - 1) ssas)) is in
      (insert_heads ∙ parts.0, insert_types ∙ parts.1)
  suited Replace is = (free_from 0 ∙ is, refl)
  suited Delete is = (ap₂ (λ (a : Bool) (n : ℕ). a && nat_le n 1) (free_from 0) count_same ∙ is, refl)

-- at most fifteen arguments that are read one by one are what all of them mean, where the function may have them
resolve_down : (s : Setting) (f : Function) (texts : List (List ℕ)) (ssas : List Ssa) → suits s f ssas ≡ true → length texts ≤ 15 → read_down s None texts ≡ Some ssas → resolve s f texts ≡ Ok ssas
resolve_down s f texts ssas suit few is =
    let r = read_as s texts None ssas is in
    let may = suited s None texts ssas r f suit in
    ap (λ (o : Option (List Head)). result_and_then (ok_or (option_and_then (λ hs. cond (heads_suit s f hs) (Some hs) None) o) AJ) (λ hs. result_and_then (ok_or (codes_of s f hs) AC) (λ cs. read_ssas s cs hs))) r.read
    ∙ ap (λ (b : Bool). result_and_then (ok_or (cond b (Some r.heads) None) AJ) (λ hs. result_and_then (ok_or (codes_of s f hs) AC) (λ cs. read_ssas s cs hs))) may.0
    ∙ ap (λ (n : ℕ). result_and_then (ok_or (cond (nat_le n 15) (option_and_then (λ cs. cond (types_suit s f r.heads cs) (Some cs) None) (codes_below s None r.heads)) None) AC) (λ cs. read_ssas s cs r.heads)) r.count
    ∙ ap (λ (b : Bool). result_and_then (ok_or (cond b (option_and_then (λ cs. cond (types_suit s f r.heads cs) (Some cs) None) (codes_below s None r.heads)) None) AC) (λ cs. read_ssas s cs r.heads)) (le-leb (length texts) 15 few)
    ∙ ap (λ (o : Option (List ℕ)). result_and_then (ok_or (option_and_then (λ cs. cond (types_suit s f r.heads cs) (Some cs) None) o) AC) (λ cs. read_ssas s cs r.heads)) r.below
    ∙ ap (λ (b : Bool). result_and_then (ok_or (cond b (Some r.codes) None) AC) (λ cs. read_ssas s cs r.heads)) may.1
    ∙ r.meant

pub resolve_few : (s : Setting) (f : Function) (texts : List (Vec ℕ)) (ssas : List Ssa) → suits s f ssas ≡ true → length texts ≤ 4 → read_down s None (map (λ t. t.items) texts) ≡ Some ssas
    → resolve s f (map (λ t. t.items) texts) ≡ Ok ssas
resolve_few s f texts ssas suit few is =
    let counted : length (map (λ t. t.items) texts) ≡ length texts = length-map texts (λ t. t.items) in
    let fits : length (map (λ t. t.items) texts) ≤ 15 = grind (arith, common_steps) in
    resolve_down s f (map (λ t. t.items) texts) ssas suit fits is

-- ---- texts from a place on

down_from : (s : Setting) (above : Option ℕ) (texts : List (Vec ℕ)) (i : ℕ) (v : Vec ℕ) → i < length texts → v ≡ get_or texts i v
    → read_down s above (map (λ t. t.items) (drop i texts))
    ≡ option_and_then (λ a. option_map (λ more. a ∷ more) (read_down s (Some a.code) (map (λ t. t.items) (drop (i + 1) texts)))) (read_below s above v.items)
down_from s above texts i v below is =
    ap (λ (vs : List (Vec ℕ)). read_down s above (map (λ t. t.items) vs)) (drop_more texts i v below ∙ ap (λ x. x ∷ drop (i + 1) texts) (sym is))

down_next : (s : Setting) (texts : List (Vec ℕ)) (i : ℕ) (above : Option ℕ) (v : Vec ℕ) (a : Ssa) (code : ℕ) (so_far now : List Ssa) → code ≡ a.code → i < length texts → v ≡ get_or texts i v
    → read_below s above v.items ≡ Some a → now ≡ so_far ++ a ∷ []
    → option_map (λ more. now ++ more) (read_down s (Some code) (map (λ t. t.items) (drop (i + 1) texts))) ≡ option_map (λ more. so_far ++ more) (read_down s above (map (λ t. t.items) (drop i texts)))
down_next s texts i above v a code so_far now coded below is reads longer_now =
    let rest : Option (List Ssa) = read_down s (Some a.code) (map (λ t. t.items) (drop (i + 1) texts)) in
    ap (λ (n : ℕ). option_map (λ more. now ++ more) (read_down s (Some n) (map (λ t. t.items) (drop (i + 1) texts)))) coded
    ∙ ap (λ (xs : List Ssa). option_map (λ more. xs ++ more) rest) longer_now
    ∙ moved rest
    ∙ sym (ap (λ (o : Option (List Ssa)). option_map (λ more. so_far ++ more) o)
    (down_from s above texts i v below is
    ∙ ap (λ (o : Option Ssa). option_and_then (λ a. option_map (λ more. a ∷ more) (read_down s (Some a.code) (map (λ t. t.items) (drop (i + 1) texts)))) o) reads))
  where
    moved : (o : Option (List Ssa)) → option_map (λ more. (so_far ++ a ∷ []) ++ more) o ≡ option_map (λ more. so_far ++ more) (option_map (λ more. a ∷ more) o)
    moved (Some more) = ap (λ (xs : List Ssa). Some xs) (append_assoc so_far (a ∷ []) more)
    moved None = refl

-- one text more, whose argument was added
pub down_step : (s : Setting) (texts : List (Vec ℕ)) (i : ℕ) (above : Option ℕ) (v : Vec ℕ) (code : ℕ) (so_far now : List Ssa) → i < length texts → v ≡ get_or texts i v
    → option_map (λ a. a.code) (read_below s above v.items) ≡ Some code → now ≡ so_far ++ option_to_list (read_below s above v.items)
    → (option_map (λ more. now ++ more) (read_down s (Some code) (map (λ t. t.items) (drop (i + 1) texts))) ≡ option_map (λ more. so_far ++ more) (read_down s above (map (λ t. t.items) (drop i texts))))
    × (length now ≡ length so_far + 1)
down_step s texts i above v code so_far now below is coded added = by (read_below s above v.items) refl coded added
  where
    by : (o : Option Ssa) → read_below s above v.items ≡ o → option_map (λ a. a.code) o ≡ Some code → now ≡ so_far ++ option_to_list o
        → (option_map (λ more. now ++ more) (read_down s (Some code) (map (λ t. t.items) (drop (i + 1) texts))) ≡ option_map (λ more. so_far ++ more) (read_down s above (map (λ t. t.items) (drop i texts))))
        × (length now ≡ length so_far + 1)
    by None reads coded added = absurd (none-some code coded)
    by (Some a) reads coded added = (
      down_next s texts i above v a code so_far now (sym (some_is a.code code coded)) below is reads added,
      ap (λ (xs : List Ssa). length xs) added ∙ length-append so_far (a ∷ []),
    )

-- a text of which a part is refused
pub down_stops : (s : Setting) (texts : List (Vec ℕ)) (i : ℕ) (above : Option ℕ) (v : Vec ℕ) (so_far : List Ssa) → i < length texts → v ≡ get_or texts i v
    → option_map (λ a. a.code) (read_below s above v.items) ≡ None
    → option_map (λ more. so_far ++ more) (read_down s above (map (λ t. t.items) (drop i texts))) ≡ None
down_stops s texts i above v so_far below is uncoded =
    ap (λ (o : Option (List Ssa)). option_map (λ more. so_far ++ more) o) (down_from s above texts i v below is) ∙ by (read_below s above v.items) uncoded
  where
    by : (o : Option Ssa) → option_map (λ a. a.code) o ≡ None
        → option_map (λ more. so_far ++ more) (option_and_then (λ a. option_map (λ more. a ∷ more) (read_down s (Some a.code) (map (λ t. t.items) (drop (i + 1) texts)))) o) ≡ None
    by None uncoded = refl
    by (Some a) uncoded = absurd (none-some a.code (sym uncoded))
