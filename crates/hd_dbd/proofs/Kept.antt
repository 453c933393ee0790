-- What a database keeps of each type is found again by the type's code.
use Rattle.std.proofs.Common.{◌≡◌, ℕ, suc, ◌+◌, ◌-◌, ◌<◌, ◌≤◌, List, [], ◌∷◌, length, take, true, false, arith, ap, sym, ◌∙◌, refl, cond, Option, Some, None, inl, inr}
use Rattle.std.specs.Prelude.{slice_index_or, ◌==◌, ◌⊎◌, option_and_then}
use Rattle.std.specs.Option.{option_map_or}
use Rattle.std.proofs.lemmas.Bool.{and_parts, eq-eqb, ne_eqb, cond-true, cond-false, cases_eq, cases_lt}
use Rattle.std.proofs.lemmas.List.{get_or_past}
use Rattle.std.proofs.lemmas.Option.{get_or_from_slice_get}
use Rattle.hd_dbd.specs.declared.facts.TypeFacts.{TypeFacts}
use Rattle.hd_dbd.specs.Types.{SegmentType}
use Rattle.hd_dbd.specs.Hierarchy.{type_of, level_of}
use Rattle.hd_dbd.specs.Prefixes.{twin_part, child_parts, is_child_of, children_from, children_of, prefix_length, pointers_at, rounded_up, stored_size}
use Rattle.hd_dbd.specs.Facts.{table_from, facts_at, facts_of, children_lists}
use Rattle.hd_dbd.specs.DatabaseRules.{types_fit_from}
use Rattle.hd_dbd.proofs.Tables.{length-table_from, slice_get-table_from}
use Rattle.hd_dbd.proofs.Levels.{type_of-zero, type_of-past, level_of-zero, level_of-past}
use Rattle.hd_dbd.proofs.Fitting.{IsEarlier, parent_part}

-- what is kept of no type
abbrev pub no_facts : TypeFacts
no_facts = record { level = 0; prefix = 0; pointers = 0; size = 0 }

same_facts : (l m p q s t x y : ℕ) → l ≡ m → p ≡ q → s ≡ t → x ≡ y
    → ◌≡◌ {A = TypeFacts} (record { level = l; prefix = p; pointers = s; size = x }) (record { level = m; prefix = q; pointers = t; size = y })
same_facts l m p q s t x y a b d e = cc

-- a code of no type has zeros
facts_of_none : (types : List SegmentType) (c : ℕ) → type_of types c ≡ None → level_of types c ≡ 0 → no_facts ≡ facts_at types c
facts_of_none types c is low =
    same_facts 0 (level_of types c) 0 (prefix_length types c) 0 (pointers_at types c) 0 (stored_size types c)
    (sym low)
    (sym (ap (λ (o : Option SegmentType). option_map_or (λ t. twin_part c t + child_parts c types) o 0) is))
    (sym (ap (λ (o : Option SegmentType). option_map_or (λ p. option_map_or (λ t. twin_part p t) (type_of types p) 0 + child_parts p (take (c - 1) types)) (option_and_then (λ t. t.parent) o) 0) is))
    (sym (ap (λ (o : Option SegmentType). option_map_or (λ t. rounded_up (prefix_length types c + t.length)) o 0) is))

-- what a table of a function has at a code of its own
entry_at : {A : Type 0} (f : ℕ → A) (n c : ℕ) (d : A) → (c ≡ 0 → ⊥) → c - 1 < n → slice_index_or (table_from f 1 n) (c - 1) d ≡ f c
entry_at f n c d some below =
    let at : 1 + (c - 1) ≡ c = omega arith in
    get_or_from_slice_get (table_from f 1 n) (c - 1) (f (1 + (c - 1))) d (slice_get-table_from f 1 n (c - 1) below) ∙ ap f at

-- and past its end
entry_past : {A : Type 0} (f : ℕ → A) (n c : ℕ) (d : A) → n ≤ c - 1 → slice_index_or (table_from f 1 n) (c - 1) d ≡ d
entry_past f n c d past = get_or_past (table_from f 1 n) (c - 1) d (omega (arith, length-table_from f 1 n))

facts_later : (types : List SegmentType) (c : ℕ) → (c ≡ 0 → ⊥) → (c - 1 < length types) ⊎ (length types ≤ c - 1)
    → slice_index_or (facts_of types) (c - 1) no_facts ≡ facts_at types c
facts_later types c some (inl below) = entry_at (facts_at types) (length types) c no_facts some below
facts_later types c some (inr past) =
    entry_past (facts_at types) (length types) c no_facts past
    ∙ facts_of_none types c (type_of-past types c some past) (level_of-past types c some past)

facts_by : (types : List SegmentType) (c : ℕ) → (c ≡ 0) ⊎ (c ≡ 0 → ⊥)
    → cond (c == 0) no_facts (slice_index_or (facts_of types) (c - 1) no_facts) ≡ facts_at types c
facts_by types c (inl none) =
    cond-true (c == 0) no_facts (slice_index_or (facts_of types) (c - 1) no_facts) (eq-eqb c 0 none)
    ∙ facts_of_none types c (type_of-zero types c none) (level_of-zero types c none)
facts_by types c (inr some) =
    cond-false (c == 0) no_facts (slice_index_or (facts_of types) (c - 1) no_facts) (ne_eqb c 0 some)
    ∙ facts_later types c some (cases_lt (c - 1) (length types))

pub facts_found : (types : List SegmentType) (c : ℕ)
    → cond (c == 0) no_facts (slice_index_or (facts_of types) (c - 1) no_facts) ≡ facts_at types c
facts_found types c = facts_by types c (cases_eq c 0)

-- a parent that is an earlier type is not the type 0, and none from the type's own code on
no_child : (c k : ℕ) (parent : Option ℕ) → IsEarlier parent k → (c ≡ 0) ⊎ (k ≤ c) → option_map_or (λ q. q == c) parent false ≡ false
no_child c k None early outside = refl
no_child c k (Some p) early (inl none) = ne_eqb p c (λ e. omega arith)
no_child c k (Some p) early (inr later) = ne_eqb p c (λ e. omega arith)

outside_more : (c k n : ℕ) → (c ≡ 0) ⊎ (k + suc n ≤ c) → (c ≡ 0) ⊎ (k + 1 + n ≤ c)
outside_more c k n (inl none) = inl none
outside_more c k n (inr later) = inr (omega arith)

outside_here : (c k n : ℕ) → (c ≡ 0) ⊎ (k + suc n ≤ c) → (c ≡ 0) ⊎ (k ≤ c)
outside_here c k n (inl none) = inl none
outside_here c k n (inr later) = inr (omega arith)

-- no type is a child of the type 0, and none of a type past the last
no_children : (block_size : ℕ) (types : List SegmentType) (c k : ℕ) (ts : List SegmentType)
    → types_fit_from block_size types k ts ≡ true → (c ≡ 0) ⊎ (k + length ts ≤ c) → children_from c k ts ≡ []
no_children block_size types c k [] fit outside = refl
no_children block_size types c k (t ∷ ts) fit outside =
    let both = and_parts _ _ fit in
    cond-false (is_child_of c t) (k ∷ children_from c (k + 1) ts) (children_from c (k + 1) ts)
    (no_child c k t.parent (parent_part block_size types k t both.0) (outside_here c k (length ts) outside))
    ∙ no_children block_size types c (k + 1) ts both.1 (outside_more c k (length ts) outside)

children_later : (block_size : ℕ) (types : List SegmentType) (c : ℕ) → types_fit_from block_size types 1 types ≡ true
    → (c ≡ 0 → ⊥) → (c - 1 < length types) ⊎ (length types ≤ c - 1)
    → slice_index_or (children_lists types) (c - 1) [] ≡ children_of types c
children_later block_size types c fit some (inl below) = entry_at (children_of types) (length types) c [] some below
children_later block_size types c fit some (inr past) =
    entry_past (children_of types) (length types) c [] past
    ∙ sym (no_children block_size types c 1 types fit (inr (omega arith)))

children_by : (block_size : ℕ) (types : List SegmentType) (c : ℕ) → types_fit_from block_size types 1 types ≡ true
    → (c ≡ 0) ⊎ (c ≡ 0 → ⊥) → cond (c == 0) [] (slice_index_or (children_lists types) (c - 1) []) ≡ children_of types c
children_by block_size types c fit (inl none) =
    cond-true (c == 0) [] (slice_index_or (children_lists types) (c - 1) []) (eq-eqb c 0 none)
    ∙ sym (no_children block_size types c 1 types fit (inl none))
children_by block_size types c fit (inr some) =
    cond-false (c == 0) [] (slice_index_or (children_lists types) (c - 1) []) (ne_eqb c 0 some)
    ∙ children_later block_size types c fit some (cases_lt (c - 1) (length types))

pub children_found : (block_size : ℕ) (types : List SegmentType) (c : ℕ) → types_fit_from block_size types 1 types ≡ true
    → cond (c == 0) [] (slice_index_or (children_lists types) (c - 1) []) ≡ children_of types c
children_found block_size types c fit = children_by block_size types c fit (cases_eq c 0)
