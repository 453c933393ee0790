-- What a choice among readings of a line came to.
use Rattle.std.proofs.Common.{◌≡◌, ◌⊎◌, inl, inr, ℕ, List, [], ◌∷◌, cond, Bool, true, false, Option, Some, None, Ok, Err, refl, arith, Result}
use Rattle.std.specs.Prelude.{◌==◌}
use Rattle.std.specs.Option.{option_map_or}
use Rattle.std.proofs.lemmas.Bool.Decides.{nat_tests}
use Rattle.hd_deck.specs.declared.deck.DeckFault.{DeckFault}
use Rattle.hd_deck.specs.Deck.{Statement}

abbrev pub Said : Type 0
Said = Result Statement DeckFault

pub true-is : (b c : ℕ) → (b == c) ≡ true → b ≡ c
true-is b c e = grind (arith, nat_tests)

pub same_said : (a b : Statement) → ◌≡◌ {A = Said} (Ok a) (Ok b) → a ≡ b
same_said a b e = cc

-- a choice was made in one way, or in the other
pub by-test : (c : Bool) (x y : Said) (s : Statement) → cond c x y ≡ Ok s → ((c ≡ true) × (x ≡ Ok s)) ⊎ ((c ≡ false) × (y ≡ Ok s))
by-test true x y s h = inl (refl, h)
by-test false x y s h = inr (refl, h)

-- a test that guards held
pub guard-ok : (c : Bool) (x : Said) (e : DeckFault) (s : Statement) → cond c x (Err e) ≡ Ok s → (c ≡ true) × (x ≡ Ok s)
guard-ok true x e s h = (refl, h)
guard-ok false x e s h = absurd (cc)

pub map-or-ok : {A : Type 0} (f : A → Said) (o : Option A) (e : DeckFault) (s : Statement) → option_map_or f o (Err e) ≡ Ok s → (x : A) × (o ≡ Some x) × (f x ≡ Ok s)
map-or-ok f None e s h = absurd (cc)
map-or-ok f (Some x) e s h = (x, refl, h)

-- a line was not too long
pub long-line : (c : Bool) (x : Said) (e : DeckFault) (s : Statement) → cond c (Err e) x ≡ Ok s → (c ≡ false) × (x ≡ Ok s)
long-line true x e s h = absurd (cc)
long-line false x e s h = (refl, h)
