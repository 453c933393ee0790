-- What a look at a row tells of whether it meets the arguments of its type.
use Rattle.std.proofs.Common.{◌≡◌, ℕ, List, [], ◌∷◌, Bool, true, false, Option, Some, None, sym, refl}
use Rattle.std.specs.Prelude.{◌&&◌, ◌||◌, ◌==◌, not}
use Rattle.std.specs.Option.{option_map_or}
use Rattle.std.specs.List.{list_all, list_any}
use Rattle.std.proofs.lemmas.Bool.{false≢true}
use Rattle.hd_dbd.specs.declared.hierarchy.Key.{Key}
use Rattle.hd_dbd.specs.Types.{SegmentType}
use Rattle.hd_dbd.specs.Segment.{Segment}
use Rattle.hd_dbd.specs.Hierarchy.{type_of}
use Rattle.hd_dbd.specs.Paths.{row_at}
use Rattle.hd_calls.specs.Ssas.{Comparison, Ssa}
use Rattle.hd_calls.specs.Satisfies.{is_true_of, qualifies, is_last_so}
use Rattle.hd_calls.specs.SearchKeys.{are_groups_past, is_key_past, is_past}
use Rattle.hd_calls.specs.Admits.{admits}
use Rattle.hd_get.specs.Asking.{qualifies_own, some_has_last}
use Rattle.hd_calls.proofs.SearchKeys.{groups_false}

module _ (types : List SegmentType) (rows : List Segment) (i : ℕ) where
  -- without a qualification it is not admitted
  pub not_seen : (ssas : List Ssa) → qualifies_own ssas (row_at rows i) ≡ false → admits types rows ssas i ≡ false
  not_seen [] e = cc
  not_seen (a ∷ ssas) e =
      by (a.code == (row_at rows i).code) (qualifies a (row_at rows i)) (not a.commands.last || a.code == 1 || is_last_so types rows a i) (qualifies_own ssas (row_at rows i)) (admits types rows ssas i) e
      (λ h. not_seen ssas h)
    where
      by : (c q l rest all : Bool) → ((not c || q) && rest) ≡ false → (rest ≡ false → all ≡ false) → ((not c || (q && l)) && all) ≡ false
      by true false l rest all h more = refl
      by true true false rest all h more = refl
      by true true true rest all h more = more h
      by false q l rest all h more = more h

  -- with all of them it is, where none of the arguments of its type has L
  pub seen : (ssas : List Ssa) → qualifies_own ssas (row_at rows i) ≡ true → some_has_last ssas (row_at rows i).code ≡ false → admits types rows ssas i ≡ true
  seen [] e none = refl
  seen (a ∷ ssas) e none =
      by (a.code == (row_at rows i).code) (qualifies a (row_at rows i)) a.commands.last (a.code == 1) (is_last_so types rows a i) (qualifies_own ssas (row_at rows i))
      (some_has_last ssas (row_at rows i).code) (admits types rows ssas i) e none (λ h n. seen ssas h n)
    where
      by : (c q l x y rest some all : Bool) → ((not c || q) && rest) ≡ true → (c && l || some) ≡ false → (rest ≡ true → some ≡ false → all ≡ true)
          → ((not c || (q && (not l || x || y))) && all) ≡ true
      by true true true x y rest some all h n more = cc
      by true true false x y rest some all h n more = more h n
      by true false l x y rest some all h n more = cc
      by false q l x y rest some all h n more = more h n

module _ (types : List SegmentType) (r : Segment) where
  -- what is past a qualification does not have it
  past_unqualified : (a : Ssa) → option_map_or (λ t. is_key_past t a r.bytes) (type_of types r.code) false ≡ true → qualifies a r ≡ false
  past_unqualified a past = by_type (type_of types r.code) past
    where
      by_groups : (k : Key) (o : Option (List (List Comparison))) → option_map_or (λ groups. are_groups_past k r.bytes groups) o false ≡ true
          → option_map_or (λ groups. list_any (λ group. list_all (λ c. is_true_of r.bytes c) group) groups) o true ≡ false
      by_groups k None h = cc
      by_groups k (Some groups) h = groups_false k r.bytes groups h

      by_key : (o : Option Key) → option_map_or (λ k. option_map_or (λ groups. are_groups_past k r.bytes groups) a.groups false) o false ≡ true → qualifies a r ≡ false
      by_key None h = cc
      by_key (Some k) h = by_groups k a.groups h

      by_type : (o : Option SegmentType) → option_map_or (λ t. is_key_past t a r.bytes) o false ≡ true → qualifies a r ≡ false
      by_type None h = cc
      by_type (Some t) h = by_key t.key h

  -- what has all qualifications is past none
  none_past : (ssas : List Ssa) → qualifies_own ssas r ≡ true → is_past types ssas r ≡ false
  none_past [] e = refl
  none_past (a ∷ ssas) e =
      by (a.code == r.code) (qualifies a r) (option_map_or (λ t. is_key_past t a r.bytes) (type_of types r.code) false) (qualifies_own ssas r) (is_past types ssas r) e
      (past_unqualified a) (none_past ssas)
    where
      by : (c q p rest past : Bool) → ((not c || q) && rest) ≡ true → (p ≡ true → q ≡ false) → (rest ≡ true → past ≡ false) → (c && p || past) ≡ false
      by true true true rest past h fails more = absurd (false≢true (sym (fails refl)))
      by true true false rest past h fails more = more h
      by true false p rest past h fails more = cc
      by false q p rest past h fails more = more h

  -- so it is with what a look tells
  pub seen_past : (ssas : List Ssa) (q : Bool) → q ≡ qualifies_own ssas r → q ≡ true → not q ≡ is_past types ssas r
  seen_past ssas true is has = sym (none_past ssas (sym is))
  seen_past ssas false is has = absurd (false≢true has)
