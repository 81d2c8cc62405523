-- Functions that take each value exactly once: composed, in a part of a pair, along a list, or undone by
-- another function.
use Rattle.std.proofs.Common.{◌≡◌, List, [], ◌∷◌, Bool, true, false, cond, refl, sym, ap, ◌∙◌}
use Rattle.std.specs.List.{All, fold}
use Rattle.std.proofs.lemmas.List.Elements.{All-head, All-tail}
use Rattle.sketch_hash.specs.Words.{OneToOne}

-- the function that leaves every value
pub same : {A : Type 0} {S : A → Type 0} → OneToOne S S (λ x. x)
same = record { lands = λ x h. h; once = λ x y h k e. e; reached = λ y h. (y, h, refl) }

-- one function, and then another
infixr 20 ◌▸◌
pub ◌▸◌ : {A B C : Type 0} {S : A → Type 0} {T : B → Type 0} {U : C → Type 0}
    {f : A → B} {g : B → C} →
    OneToOne S T f → OneToOne T U g → OneToOne S U (λ x. g (f x))
◌▸◌ {f = f} {g = g} p q = record {
  lands = λ x h. q.lands (f x) (p.lands x h);
  once = λ x y h k e. p.once x y h k (q.once (f x) (f y) (p.lands x h) (p.lands y k) e);
  reached = λ z h. let m = q.reached z h in let r = p.reached m.0 m.1 in (r.0, r.1, ap g r.2 ∙ m.2);
}

-- a function with the same values
pub alike : {A B : Type 0} {S : A → Type 0} {T : B → Type 0} {f : A → B} (g : A → B) →
    ((x : A) → S x → g x ≡ f x) → OneToOne S T f → OneToOne S T g
alike g e p = record {
  lands = λ x h. rw (e x h) (p.lands x h);
  once = λ x y h k q. p.once x y h k (sym (e x h) ∙ q ∙ e y k);
  reached = λ y h. let r = p.reached y h in (r.0, r.1, e r.0 r.1 ∙ r.2);
}

-- the first of a pair, by a function that may look at the second
pub on_first : {A B C : Type 0} {S : A → Type 0} {T : B → Type 0} {U : C → Type 0} (f : A → B → C) →
    ((b : B) → T b → OneToOne S U (λ a. f a b)) →
    OneToOne (λ (p : A × B). S p.0 × T p.1) (λ (p : C × B). U p.0 × T p.1) (λ p. (f p.0 p.1, p.1))
on_first {A = A} {B = B} {C = C} f law = record {
  lands = λ p h. ((law p.1 h.1).lands p.0 h.0, h.1);
  once = λ p q h k e.
      let second = ap (λ (t : C × B). t.1) e in
      let first = ap (λ (t : C × B). t.0) e ∙ ap (f q.0) (sym second) in
      ap (λ (a : A). (a, p.1)) ((law p.1 h.1).once p.0 q.0 h.0 k.0 first)
      ∙ ap (λ (b : B). (q.0, b)) second;
  reached = λ p h.
      let r = (law p.1 h.1).reached p.0 h.0 in
      ((r.0, p.1), (r.1, h.1), ap (λ (c : C). (c, p.1)) r.2);
}

-- the second of a pair, by a function that may look at the first
pub on_second : {A B C : Type 0} {S : A → Type 0} {T : B → Type 0} {U : C → Type 0}
    (f : A → B → C) →
    ((a : A) → S a → OneToOne T U (f a)) →
    OneToOne (λ (p : A × B). S p.0 × T p.1) (λ (p : A × C). S p.0 × U p.1) (λ p. (p.0, f p.0 p.1))
on_second {A = A} {B = B} {C = C} f law = record {
  lands = λ p h. (h.0, (law p.0 h.0).lands p.1 h.1);
  once = λ p q h k e.
      let first = ap (λ (t : A × C). t.0) e in
      let second = ap (λ (t : A × C). t.1) e ∙ ap (λ a. f a q.1) (sym first) in
      ap (λ (b : B). (p.0, b)) ((law p.0 h.0).once p.1 q.1 h.1 k.1 second)
      ∙ ap (λ (a : A). (a, q.1)) first;
  reached = λ p h.
      let r = (law p.0 h.0).reached p.1 h.1 in
      ((p.0, r.0), (h.0, r.1), ap (λ (c : C). (p.0, c)) r.2);
}

-- both of a pair, each by itself
pub on_both : {A B C D : Type 0} {S : A → Type 0} {T : B → Type 0} {U : C → Type 0} {V : D → Type 0}
    {f : A → C} {g : B → D} → OneToOne S U f → OneToOne T V g →
    OneToOne (λ (p : A × B). S p.0 × T p.1) (λ (p : C × D). U p.0 × V p.1) (λ p. (f p.0, g p.1))
on_both {f = f} {g = g} p q = on_first (λ a b. f a) (λ b h. p) ▸ on_second (λ c. g) (λ c h. q)

-- one of two functions, by a test
pub choice : {A B : Type 0} {S : A → Type 0} {T : B → Type 0} {f g : A → B} (b : Bool) →
    OneToOne S T f → OneToOne S T g → OneToOne S T (λ x. cond b (f x) (g x))
choice true p q = p
choice false p q = q

-- all elements of a list, one after another
pub along : {A X : Type 0} {S : A → Type 0} {P : X → Type 0} (f : A → X → A) →
    ((x : X) → P x → OneToOne S S (λ a. f a x)) → (xs : List X) → All P xs →
    OneToOne S S (λ a. fold f a xs)
along f law [] h = same
along {P = P} f law (x ∷ xs) h = law x (All-head P x xs h) ▸ along f law xs (All-tail P x xs h)

-- f takes S to T, and g undoes it
pub record Undoes {A B : Type 0} (S : A → Type 0) (T : B → Type 0) (f : A → B) (g : B → A) : Type 0 where
  pub lands : (x : A) → S x → T (f x)
  pub comes : (y : B) → T y → S (g y)
  pub back : (x : A) → S x → g (f x) ≡ x
  pub forth : (y : B) → T y → f (g y) ≡ y

pub one_to_one : {A B : Type 0} {S : A → Type 0} {T : B → Type 0} {f : A → B} {g : B → A} →
    Undoes S T f g → OneToOne S T f
one_to_one {f = f} {g = g} u = record {
  lands = u.lands;
  once = λ x y h k e. sym (u.back x h) ∙ ap g e ∙ u.back y k;
  reached = λ y h. (g y, u.comes y h, u.forth y h);
}
