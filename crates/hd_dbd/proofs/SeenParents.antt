-- A PCB sees the parents of its SENSEGs just where it sees the parent of each type that it sees.
use Rattle.std.proofs.Common.{◌≡◌, ℕ, ◌+◌, ◌<◌, List, length, get_or, Bool, true, false, not, ◌&&◌, ◌||◌, ap, sym, ◌∙◌, refl, Option, Some, None, is_some, option_map, position, bytes_eq, All, ◌⊎◌, inl, inr}
use Rattle.std.specs.Option.{option_map_or, option_eq}
use Rattle.std.specs.List.{list_all, list_any}
use Rattle.std.specs.Cmp.Lexicographic.{nat_list_eq_equiv}
use Rattle.std.proofs.lemmas.Bool.{false≢true, and_parts, and_from, cases_Bool}
use Rattle.std.proofs.lemmas.Bool.Decides.{same_from_decides}
use Rattle.std.proofs.lemmas.List.Folds.{Any-from_list_any, list_any_at}
use Rattle.std.proofs.lemmas.List.Sums.{AllPass-from_list_all, list_all-from_AllPass}
use Rattle.std.proofs.lemmas.List.Quantifiers.{position-Some}
use Rattle.std.proofs.lemmas.Slice.Eq.{bytes_eq-Decides}
use Rattle.hd_dbd.specs.Types.{SeenType, View}
use Rattle.hd_dbd.specs.declared.program.TypeName.{TypeName}
use Rattle.hd_dbd.specs.ProgramRules.{code_named, parent_named, sees, seen_names_fit, parents_fit}

-- the two parents are one
one_parent : (a b : Option (List ℕ)) → option_eq bytes_eq a b ≡ true → a ≡ b
one_parent None None same = refl
one_parent None (Some q) same = absurd (false≢true same)
one_parent (Some p) None same = absurd (false≢true same)
one_parent (Some p) (Some q) same = ap (λ (x : List ℕ). Some x) ((bytes_eq-Decides p q).0 same)

-- a type that is seen has its parent seen just where the parent is
where_seen : (pcb : View) (name : List ℕ) (parent : Option (List ℕ)) → sees pcb name ≡ true
    → option_map_or (λ q. not (sees pcb name) || sees pcb q) parent true ≡ option_map_or (λ q. sees pcb q) parent true
where_seen pcb name None seen = refl
where_seen pcb name (Some q) seen = ap (λ (b : Bool). not b || sees pcb q) seen

-- a type that is not seen need not have it
where_hidden : (pcb : View) (name : List ℕ) (parent : Option (List ℕ)) → sees pcb name ≡ false → option_map_or (λ q. not (sees pcb name) || sees pcb q) parent true ≡ true
where_hidden pcb name None hidden = refl
where_hidden pcb name (Some q) hidden = ap (λ (b : Bool). not b || sees pcb q) hidden

-- a name that has a code is that of a type
named : (names : List TypeName) (name : List ℕ) → is_some (code_named names name) ≡ true → list_any (λ t. bytes_eq t.name name) names ≡ true
named names name found = at (position (λ t. bytes_eq t.name name) names) refl found
  where
    at : (o : Option ℕ) → position (λ t. bytes_eq t.name name) names ≡ o → is_some (option_map (λ i. i + 1) o) ≡ true → list_any (λ t. bytes_eq t.name name) names ≡ true
    at None is some = absurd (false≢true some)
    at (Some i) is some =
        let d : TypeName = record { name = name; parent = None } in
        let place = position-Some (λ t. bytes_eq t.name name) names i d is in
        list_any_at (λ t. bytes_eq t.name name) names i d place.0 place.1

-- a PCB sees the types of its SENSEGs
sees_own : (pcb : View) (k : ℕ) (d : SeenType) → k < length pcb.sens → sees pcb (get_or pcb.sens k d).name ≡ true
sees_own pcb k d below =
    list_any_at (λ s. bytes_eq s.name (get_or pcb.sens k d).name) pcb.sens k d below (nat_list_eq_equiv.refl (get_or pcb.sens k d).name)

-- two tests of which each passes where the other does
as_one : (a b : Bool) → (a ≡ true → b ≡ true) → (b ≡ true → a ≡ true) → a ≡ b
as_one a b to from = same_from_decides a b (to, from) (λ h. h, λ h. h)

module _ (names : List TypeName) (pcb : View) where
  -- a SENSEG has the parent of its type
  abbrev is_own : SeenType → Bool
  is_own s = option_eq bytes_eq s.parent (parent_named names s.name)

  -- and the PCB sees it
  abbrev fits : SeenType → Bool
  fits s = is_own s && option_map_or (λ q. sees pcb q) s.parent true

  -- the PCB sees the parent of the type of a name, if it sees the type
  abbrev pub is_kept : List ℕ → Bool
  is_kept name = option_map_or (λ q. not (sees pcb name) || sees pcb q) (parent_named names name) true

  -- where each type that is seen has its parent seen, each SENSEG has
  sensegs_fit : seen_names_fit names pcb ≡ true → list_all is_own pcb.sens ≡ true → list_all (λ t. is_kept t.name) names ≡ true → All (λ s. fits s ≡ true) pcb.sens
  sensegs_fit known own kept k d below =
      let s : SeenType = get_or pcb.sens k d in
      let mine : is_own s ≡ true = AllPass-from_list_all is_own pcb.sens own k d below in
      let found = Any-from_list_any (λ t. bytes_eq t.name s.name) names (named names s.name (AllPass-from_list_all (λ u. is_some (code_named names u.name)) pcb.sens known k d below)) in
      let t : TypeName = found.1 in
      let at_place : is_kept (get_or names found.0 t).name ≡ true = AllPass-from_list_all (λ u. is_kept u.name) names kept found.0 t found.2 in
      let at_name : is_kept s.name ≡ true = ap is_kept (sym ((bytes_eq-Decides t.name s.name).0 found.4)) ∙ ap (λ (u : TypeName). is_kept u.name) (sym found.3) ∙ at_place in
      let seen : option_map_or (λ q. sees pcb q) s.parent true ≡ true =
      sym (where_seen pcb s.name s.parent (sees_own pcb k d below))
      ∙ ap (λ (o : Option (List ℕ)). option_map_or (λ q. not (sees pcb s.name) || sees pcb q) o true) (one_parent _ _ mine) ∙ at_name in
      and_from _ _ mine seen

  -- where each SENSEG has its parent seen, each type that is seen has
  types_fit : list_all fits pcb.sens ≡ true → All (λ (t : TypeName). is_kept t.name ≡ true) names
  types_fit fit k d below = either (cases_Bool (sees pcb (get_or names k d).name))
    where
      either : (sees pcb (get_or names k d).name ≡ true) ⊎ (sees pcb (get_or names k d).name ≡ false) → is_kept (get_or names k d).name ≡ true
      either (inr hidden) = where_hidden pcb (get_or names k d).name (parent_named names (get_or names k d).name) hidden
      either (inl seen) =
          let t : TypeName = get_or names k d in
          let found = Any-from_list_any (λ u. bytes_eq u.name t.name) pcb.sens seen in
          let s : SeenType = found.1 in
          let both = and_parts _ _ (ap fits (sym found.3) ∙ AllPass-from_list_all fits pcb.sens fit found.0 s found.2) in
          let parent : parent_named names t.name ≡ s.parent = ap (parent_named names) (sym ((bytes_eq-Decides s.name t.name).0 found.4)) ∙ sym (one_parent _ _ both.0) in
          where_seen pcb t.name (parent_named names t.name) seen ∙ ap (λ (o : Option (List ℕ)). option_map_or (λ q. sees pcb q) o true) parent ∙ both.1

  -- each SENSEG has the parent of its type, and the PCB sees it, just where each has it and the PCB sees that of each type that it sees
  pub parents_agree : seen_names_fit names pcb ≡ true → (list_all is_own pcb.sens && list_all (λ t. is_kept t.name) names) ≡ parents_fit names pcb
  parents_agree known =
      as_one _ _
      (λ h. (let both = and_parts _ _ h in list_all-from_AllPass fits pcb.sens (sensegs_fit known both.0 both.1)))
      (λ h. and_from _ _ (list_all-from_AllPass is_own pcb.sens (λ k d below. (and_parts _ _ (AllPass-from_list_all fits pcb.sens h k d below)).0))
      (list_all-from_AllPass (λ t. is_kept t.name) names (types_fit h)))
