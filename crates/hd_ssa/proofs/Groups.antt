-- Reading the groups of a qualification, one comparison at a time.
use Rattle.std.proofs.Common.{◌≡◌, ℕ, suc, List, [], ◌∷◌, drop, Bool, true, false, ◌&&◌, ◌||◌, cond, Result, Ok, Err, is_ok, ap, ◌∙◌, sym, refl}
use Rattle.std.specs.List.{list_any, list_all}
use Rattle.std.specs.Result.{result_unwrap_or}
use Rattle.hd_dbd.specs.Types.{SegmentType}
use Rattle.hd_dbd.specs.declared.answer.Status.{Status}
use Rattle.hd_dbd.specs.declared.answer.Status.TheVariants.{AJ}
use Rattle.hd_calls.specs.Functions.{result_and_then}
use Rattle.hd_calls.specs.Ssas.{Comparison, ComparisonRead, read_comparison, read_groups, read_qualification, joined_to, begins_with, is_close, is_and, is_or}
use Rattle.std.proofs.Common.{Bor}
use Rattle.std.proofs.lemmas.Bool.{false≢true}
use Rattle.std.specs.Prelude.{Option, Some, None, is_some, option_copied, option_map, option_and_then}
use Rattle.hd_dbd.specs.declared.hierarchy.Key.{Key}
use Rattle.hd_ssa.specs.LeastKeys.{bound_of, greater_of, lesser_of, least_bound, least_behind}
use Rattle.hd_ssa.specs.Texts.{groups_in, groups_within, passes_behind}

abbrev pub and_of : SegmentType → ℕ → ComparisonRead → Result (List (List Comparison)) Status
and_of t m c = result_and_then (read_groups t m (drop 1 c.behind)) (λ groups. Ok (joined_to c.comparison groups))

abbrev pub or_of : SegmentType → ℕ → ComparisonRead → Result (List (List Comparison)) Status
or_of t m c = result_and_then (read_groups t m (drop 1 c.behind)) (λ groups. Ok ((c.comparison ∷ []) ∷ groups))

-- what a comparison makes of the groups behind it
abbrev pub read_behind : SegmentType → ℕ → ComparisonRead → Result (List (List Comparison)) Status
read_behind t m c =
    cond (begins_with is_close c.behind) (Ok ((c.comparison ∷ []) ∷ []))
    (cond (begins_with is_and c.behind) (and_of t m c) (cond (begins_with is_or c.behind) (or_of t m c) (Err AJ)))

pub read_next : (t : SegmentType) (n m : ℕ) (text : List ℕ) (c : ComparisonRead) → n ≡ suc m → read_comparison t text ≡ Ok c → read_groups t n text ≡ read_behind t m c
read_next t n m text c is cut =
    ap (λ (k : ℕ). read_groups t k text) is ∙ ap (λ (r : Result ComparisonRead Status). result_and_then r (λ d. read_behind t m d)) cut

pub read_cut_fault : (t : SegmentType) (n m : ℕ) (text : List ℕ) (e : Status) → n ≡ suc m → read_comparison t text ≡ Err e → read_groups t n text ≡ Err e
read_cut_fault t n m text e is cut =
    ap (λ (k : ℕ). read_groups t k text) is ∙ ap (λ (r : Result ComparisonRead Status). result_and_then r (λ d. read_behind t m d)) cut

-- the three tests, over any values
choice_close : (k a o : Bool) (x y z w : Result (List (List Comparison)) Status) → k ≡ true → cond k x (cond a y (cond o z w)) ≡ x
choice_close k a o x y z w is = ap (λ (b : Bool). cond b x (cond a y (cond o z w))) is

choice_none : (k a o : Bool) (x y z w : Result (List (List Comparison)) Status) → k ≡ false → a ≡ false → o ≡ false → cond k x (cond a y (cond o z w)) ≡ w
choice_none k a o x y z w closes joins parts =
    ap (λ (b : Bool). cond b x (cond a y (cond o z w))) closes ∙ ap (λ (b : Bool). cond b y (cond o z w)) joins ∙ ap (λ (b : Bool). cond b z w) parts

choice_and : (k a o : Bool) (x y z w : Result (List (List Comparison)) Status) → k ≡ false → a ≡ true → cond k x (cond a y (cond o z w)) ≡ y
choice_and k a o x y z w closes joins =
    ap (λ (b : Bool). cond b x (cond a y (cond o z w))) closes ∙ ap (λ (b : Bool). cond b y (cond o z w)) joins

choice_or : (k a o : Bool) (x y z w : Result (List (List Comparison)) Status) → k ≡ false → a ≡ false → o ≡ true → cond k x (cond a y (cond o z w)) ≡ z
choice_or k a o x y z w closes joins parts =
    ap (λ (b : Bool). cond b x (cond a y (cond o z w))) closes ∙ ap (λ (b : Bool). cond b y (cond o z w)) joins ∙ ap (λ (b : Bool). cond b z w) parts

pub read_close : (t : SegmentType) (n m : ℕ) (text : List ℕ) (c : ComparisonRead) → n ≡ suc m → read_comparison t text ≡ Ok c → begins_with is_close c.behind ≡ true → read_groups t n text ≡ Ok ((c.comparison ∷ []) ∷ [])
read_close t n m text c is cut closes = read_next t n m text c is cut ∙ choice_close (begins_with is_close c.behind) (begins_with is_and c.behind) (begins_with is_or c.behind) (Ok ((c.comparison ∷ []) ∷ [])) (and_of t m c) (or_of t m c) (Err AJ) closes

pub read_none : (t : SegmentType) (n m : ℕ) (text : List ℕ) (c : ComparisonRead) → n ≡ suc m → read_comparison t text ≡ Ok c → begins_with is_close c.behind ≡ false → begins_with is_and c.behind ≡ false → begins_with is_or c.behind ≡ false → read_groups t n text ≡ Err AJ
read_none t n m text c is cut closes joins parts = read_next t n m text c is cut ∙ choice_none (begins_with is_close c.behind) (begins_with is_and c.behind) (begins_with is_or c.behind) (Ok ((c.comparison ∷ []) ∷ [])) (and_of t m c) (or_of t m c) (Err AJ) closes joins parts

pub read_and : (t : SegmentType) (n m : ℕ) (text : List ℕ) (c : ComparisonRead) → n ≡ suc m → read_comparison t text ≡ Ok c → begins_with is_close c.behind ≡ false → begins_with is_and c.behind ≡ true → read_groups t n text ≡ result_and_then (read_groups t m (drop 1 c.behind)) (λ groups. Ok (joined_to c.comparison groups))
read_and t n m text c is cut closes joins = read_next t n m text c is cut ∙ choice_and (begins_with is_close c.behind) (begins_with is_and c.behind) (begins_with is_or c.behind) (Ok ((c.comparison ∷ []) ∷ [])) (and_of t m c) (or_of t m c) (Err AJ) closes joins

pub read_or : (t : SegmentType) (n m : ℕ) (text : List ℕ) (c : ComparisonRead) → n ≡ suc m → read_comparison t text ≡ Ok c → begins_with is_close c.behind ≡ false → begins_with is_and c.behind ≡ false → begins_with is_or c.behind ≡ true → read_groups t n text ≡ result_and_then (read_groups t m (drop 1 c.behind)) (λ groups. Ok ((c.comparison ∷ []) ∷ groups))
read_or t n m text c is cut closes joins parts = read_next t n m text c is cut ∙ choice_or (begins_with is_close c.behind) (begins_with is_and c.behind) (begins_with is_or c.behind) (Ok ((c.comparison ∷ []) ∷ [])) (and_of t m c) (or_of t m c) (Err AJ) closes joins parts

-- a test passed keeps what the next one says
pub passes_on : {A B : Type 0} (r : Result A Status) (f : A → B) → is_ok (result_and_then r (λ x. Ok (f x))) ≡ is_ok r
passes_on (Ok x) f = refl
passes_on (Err e) f = refl

pub fault_passes : {A B : Type 0} (r : Result A Status) (f : A → B) (e : Status) → r ≡ Err e → result_and_then r (λ x. Ok (f x)) ≡ Err e
fault_passes {A} {B} r f e is = ap (λ (q : Result A Status). let p : Result B Status = result_and_then q (λ x. Ok (f x)) in p) is

-- where a connector follows, the whole is a qualification where the rest is, and has the rest's fault
pub rest_ok : (t : SegmentType) (n m : ℕ) (text : List ℕ) (c : ComparisonRead) → n ≡ suc m → read_comparison t text ≡ Ok c → begins_with is_close c.behind ≡ false → (begins_with is_and c.behind || begins_with is_or c.behind) ≡ true → is_ok (read_groups t n text) ≡ is_ok (read_groups t m (drop 1 c.behind))
rest_ok t n m text c is cut closes connects = by (begins_with is_and c.behind) refl connects
  where
    by : (a : Bool) → begins_with is_and c.behind ≡ a → (a || begins_with is_or c.behind) ≡ true → is_ok (read_groups t n text) ≡ is_ok (read_groups t m (drop 1 c.behind))
    by true joins connects = ap is_ok (read_and t n m text c is cut closes joins) ∙ passes_on _ (joined_to c.comparison)
    by false joins connects = ap is_ok (read_or t n m text c is cut closes joins connects) ∙ passes_on _ (λ groups. (c.comparison ∷ []) ∷ groups)

pub rest_fault : (t : SegmentType) (n m : ℕ) (text : List ℕ) (c : ComparisonRead) (e : Status) → n ≡ suc m → read_comparison t text ≡ Ok c → begins_with is_close c.behind ≡ false → (begins_with is_and c.behind || begins_with is_or c.behind) ≡ true → read_groups t m (drop 1 c.behind) ≡ Err e → read_groups t n text ≡ Err e
rest_fault t n m text c e is cut closes connects wrong = by (begins_with is_and c.behind) refl connects
  where
    by : (a : Bool) → begins_with is_and c.behind ≡ a → (a || begins_with is_or c.behind) ≡ true → read_groups t n text ≡ Err e
    by true joins connects = read_and t n m text c is cut closes joins ∙ fault_passes _ (joined_to c.comparison) e wrong
    by false joins connects = read_or t n m text c is cut closes joins connects ∙ fault_passes _ (λ groups. (c.comparison ∷ []) ∷ groups) e wrong

-- ---- truth

pub groups_close : (t : SegmentType) (n m : ℕ) (text : List ℕ) (c : ComparisonRead) (test : Comparison → Bool) (so_far : Bool) → n ≡ suc m → read_comparison t text ≡ Ok c → begins_with is_close c.behind ≡ true → passes_behind test so_far (groups_within t n text) ≡ (so_far && test c.comparison)
groups_close t n m text c test so_far is cut closes =
    ap (λ (r : Result (List (List Comparison)) Status). passes_behind test so_far (result_unwrap_or r [])) (read_close t n m text c is cut closes)
    ∙ tail so_far (test c.comparison)
  where
    tail : (a b : Bool) → (a && (b && true) || false) ≡ (a && b)
    tail true true = refl
    tail true false = refl
    tail false true = refl
    tail false false = refl

joined_true : (r : Result (List (List Comparison)) Status) (c : Comparison) (test : Comparison → Bool) (so_far : Bool) → passes_behind test so_far (result_unwrap_or (result_and_then r (λ groups. Ok (joined_to c groups))) []) ≡ passes_behind test (so_far && test c) (result_unwrap_or r [])
joined_true (Err e) c test so_far = refl
joined_true (Ok []) c test so_far = refl
joined_true (Ok (g ∷ gs)) c test so_far = ap (λ (b : Bool). b || list_any (λ h. list_all test h) gs) (three so_far (test c) (list_all test g))
  where
    three : (x y z : Bool) → (x && (y && z)) ≡ ((x && y) && z)
    three true y z = refl
    three false y z = refl

pub groups_and : (t : SegmentType) (n m : ℕ) (text : List ℕ) (c : ComparisonRead) (test : Comparison → Bool) (so_far : Bool) → n ≡ suc m → read_comparison t text ≡ Ok c → begins_with is_close c.behind ≡ false → begins_with is_and c.behind ≡ true → passes_behind test so_far (groups_within t n text) ≡ passes_behind test (so_far && test c.comparison) (groups_within t m (drop 1 c.behind))
groups_and t n m text c test so_far is cut closes joins =
    ap (λ (r : Result (List (List Comparison)) Status). passes_behind test so_far (result_unwrap_or r [])) (read_and t n m text c is cut closes joins)
    ∙ joined_true (read_groups t m (drop 1 c.behind)) c.comparison test so_far

parted_true : (r : Result (List (List Comparison)) Status) (c : Comparison) (test : Comparison → Bool) (so_far : Bool) → is_ok r ≡ true → passes_behind test so_far (result_unwrap_or (result_and_then r (λ groups. Ok ((c ∷ []) ∷ groups))) []) ≡ ((so_far && test c) || passes_behind test true (result_unwrap_or r []))
parted_true (Err e) c test so_far ok = cc
parted_true (Ok []) c test so_far ok = tail so_far (test c)
  where
    tail : (a b : Bool) → (a && (b && true) || false) ≡ ((a && b) || false)
    tail true true = refl
    tail true false = refl
    tail false true = refl
    tail false false = refl
parted_true (Ok (g ∷ gs)) c test so_far ok = tail so_far (test c) (list_all test g) (list_any (λ h. list_all test h) gs)
  where
    tail : (a b x y : Bool) → (a && (b && true) || (x || y)) ≡ ((a && b) || (true && x || y))
    tail true true x y = refl
    tail true false x y = refl
    tail false true x y = refl
    tail false false x y = refl

pub groups_or : (t : SegmentType) (n m : ℕ) (text : List ℕ) (c : ComparisonRead) (test : Comparison → Bool) (so_far : Bool) → n ≡ suc m → read_comparison t text ≡ Ok c → begins_with is_close c.behind ≡ false → begins_with is_and c.behind ≡ false → begins_with is_or c.behind ≡ true → is_ok (read_groups t m (drop 1 c.behind)) ≡ true → passes_behind test so_far (groups_within t n text) ≡ ((so_far && test c.comparison) || passes_behind test true (groups_within t m (drop 1 c.behind)))
groups_or t n m text c test so_far is cut closes joins parts ok =
    ap (λ (r : Result (List (List Comparison)) Status). passes_behind test so_far (result_unwrap_or r [])) (read_or t n m text c is cut closes joins parts)
    ∙ parted_true (read_groups t m (drop 1 c.behind)) c.comparison test so_far ok

pub true_at_start : (groups : List (List Comparison)) (test : Comparison → Bool) → passes_behind test true groups ≡ list_any (λ g. list_all test g) groups
true_at_start [] test = refl
true_at_start (g ∷ gs) test = refl

-- a reading without a fault has its groups
pub ok_groups : (t : SegmentType) (text : List ℕ) → is_ok (read_qualification t text) ≡ true → read_qualification t text ≡ Ok (groups_in t text)
ok_groups t text ok = by (read_qualification t text) ok
  where
    by : (r : Result (List (List Comparison)) Status) → is_ok r ≡ true → r ≡ Ok (result_unwrap_or r [])
    by (Ok groups) ok = refl
    by (Err e) ok = cc

-- one of two
pub either : (a b : Bool) → (a ≡ false → b ≡ true) → (a || b) ≡ true
either true b f = refl
either false b f = f refl

-- neither connector follows
pub read_unconnected : (t : SegmentType) (n m : ℕ) (text : List ℕ) (c : ComparisonRead) → n ≡ suc m → read_comparison t text ≡ Ok c → begins_with is_close c.behind ≡ false → (begins_with is_and c.behind || begins_with is_or c.behind) ≡ false → read_groups t n text ≡ Err AJ
read_unconnected t n m text c is cut closes apart =
    read_none t n m text c is cut closes (left (begins_with is_and c.behind) (begins_with is_or c.behind) apart) (right (begins_with is_and c.behind) (begins_with is_or c.behind) apart)
  where
    left : (a b : Bool) → (a || b) ≡ false → a ≡ false
    left true b is = is
    left false b is = refl

    right : (a b : Bool) → (a || b) ≡ false → b ≡ false
    right true b is = cc
    right false b is = is

-- a connector that is not AND is OR
pub must_part : (a b : Bool) → (a || b) ≡ true → a ≡ false → b ≡ true
must_part true b is no_and = cc
must_part false b is no_and = is

pub not_ok : (r : Result (List (List Comparison)) Status) (e : Status) → r ≡ Err e → is_ok r ≡ true → true ≡ false
not_ok (Ok x) e is ok = cc
not_ok (Err f) e is ok = cc

-- ---- least bounds

pub bounds_close : (t : SegmentType) (n m : ℕ) (text : List ℕ) (c : ComparisonRead) (k : Key) (least bound : Option (List ℕ)) → n ≡ suc m → read_comparison t text ≡ Ok c → begins_with is_close c.behind ≡ true
    → least_behind k least bound (groups_within t n text) ≡ option_map (λ b. lesser_of least b) (greater_of bound (bound_of k c.comparison))
bounds_close t n m text c k least bound is cut closes =
    ap (λ (r : Result (List (List Comparison)) Status). least_behind k least bound (result_unwrap_or r [])) (read_close t n m text c is cut closes)
    ∙ last (greater_of bound (bound_of k c.comparison))
  where
    last : (o : Option (List ℕ)) → option_and_then (λ b. Some (lesser_of least b)) o ≡ option_map (λ b. lesser_of least b) o
    last None = refl
    last (Some b) = refl

joined_bounds : (r : Result (List (List Comparison)) Status) (c : Comparison) (k : Key) (least bound : Option (List ℕ))
    → least_behind k least bound (result_unwrap_or (result_and_then r (λ groups. Ok (joined_to c groups))) []) ≡ least_behind k least (greater_of bound (bound_of k c)) (result_unwrap_or r [])
joined_bounds (Err e) c k least bound = refl
joined_bounds (Ok []) c k least bound = refl
joined_bounds (Ok (g ∷ gs)) c k least bound = refl

pub bounds_and : (t : SegmentType) (n m : ℕ) (text : List ℕ) (c : ComparisonRead) (k : Key) (least bound : Option (List ℕ)) → n ≡ suc m → read_comparison t text ≡ Ok c → begins_with is_close c.behind ≡ false → begins_with is_and c.behind ≡ true
    → least_behind k least bound (groups_within t n text) ≡ least_behind k least (greater_of bound (bound_of k c.comparison)) (groups_within t m (drop 1 c.behind))
bounds_and t n m text c k least bound is cut closes joins =
    ap (λ (r : Result (List (List Comparison)) Status). least_behind k least bound (result_unwrap_or r [])) (read_and t n m text c is cut closes joins)
    ∙ joined_bounds (read_groups t m (drop 1 c.behind)) c.comparison k least bound

parted_bounds : (r : Result (List (List Comparison)) Status) (c : Comparison) (k : Key) (least bound : Option (List ℕ)) → is_ok r ≡ true
    → least_behind k least bound (result_unwrap_or (result_and_then r (λ groups. Ok ((c ∷ []) ∷ groups))) [])
    ≡ option_and_then (λ b. least_bound k (Some (lesser_of least b)) (result_unwrap_or r [])) (greater_of bound (bound_of k c))
parted_bounds (Err e) c k least bound ok = cc
parted_bounds (Ok gs) c k least bound ok = refl

pub bounds_or : (t : SegmentType) (n m : ℕ) (text : List ℕ) (c : ComparisonRead) (k : Key) (least bound : Option (List ℕ)) → n ≡ suc m → read_comparison t text ≡ Ok c → begins_with is_close c.behind ≡ false → begins_with is_and c.behind ≡ false → begins_with is_or c.behind ≡ true
    → is_ok (read_groups t m (drop 1 c.behind)) ≡ true
    → least_behind k least bound (groups_within t n text) ≡ option_and_then (λ b. least_bound k (Some (lesser_of least b)) (groups_within t m (drop 1 c.behind))) (greater_of bound (bound_of k c.comparison))
bounds_or t n m text c k least bound is cut closes joins parts ok =
    ap (λ (r : Result (List (List Comparison)) Status). least_behind k least bound (result_unwrap_or r [])) (read_or t n m text c is cut closes joins parts)
    ∙ parted_bounds (read_groups t m (drop 1 c.behind)) c.comparison k least bound ok

pub copied_some : (o : Option (Bor (List ℕ))) (b : Bool) → is_some o ≡ b → is_some (option_copied o) ≡ b
copied_some None b is = is
copied_some (Some x) b is = is

-- one group more, with a bound or without
pub group_more : (k : Key) (least bound after : Option (List ℕ)) (groups : List (List Comparison)) → after ≡ option_map (λ b. lesser_of least b) bound → is_some after ≡ true
    → least_behind k after None groups ≡ option_and_then (λ b. least_bound k (Some (lesser_of least b)) groups) bound
group_more k least None after groups is some = absurd (false≢true (ap is_some (sym is) ∙ some))
group_more k least (Some b) after groups is some = ap (λ (o : Option (List ℕ)). least_behind k o None groups) is ∙ start groups
  where
    start : (groups : List (List Comparison)) → least_behind k (Some (lesser_of least b)) None groups ≡ least_bound k (Some (lesser_of least b)) groups
    start [] = refl
    start (g ∷ gs) = refl

pub group_without : (k : Key) (least bound after : Option (List ℕ)) (groups : List (List Comparison)) → after ≡ option_map (λ b. lesser_of least b) bound → is_some after ≡ false
    → option_and_then (λ b. least_bound k (Some (lesser_of least b)) groups) bound ≡ None
group_without k least None after groups is none = refl
group_without k least (Some b) after groups is none = absurd (false≢true (sym none ∙ ap is_some is))
