-- The bodies of keys keep to what is asked of rules.
use Rattle.std.proofs.Common.{◌≡◌, ◌∙◌, refl, sym, ap, subst, inl, inr, ℕ, zero, suc, List, [], ◌∷◌, map, Option, Some, None}
use Rattle.std.specs.List.{cons_option, flat_map}
use Rattle.sl_key.specs.Flow.{Facts, Holds, Value as Given, and_then, held_as, or_spoiled, used, used_by}
use Rattle.sl_key.specs.Names.{decls_in, key_of, keys_of as keys_declared}
use Rattle.sl_key.specs.Order.{key_cmp, module_of}
use Rattle.sl_key.specs.Ordered.{key_apart, key_total}
use Rattle.sl_key.specs.declared.answer.Answer.{Answer}
use Rattle.sl_key.specs.declared.answer.Answer.TheVariants.{Good, Bad, Spoiled, Circular}
use Rattle.sl_key.specs.declared.answer.Good.{Good as Held}
use Rattle.sl_key.specs.declared.answer.Good.TheVariants as held
use Rattle.sl_key.specs.declared.key.Key.{Key}
use Rattle.sl_key.specs.declared.key.Kind.{Kind}
use Rattle.sl_key.specs.declared.key.Kind.TheVariants.{Syntax, Imports, Alias, Const}
use Rattle.sl_key.specs.declared.path.DeclPath.{DeclPath}
use Rattle.def_module.specs.DeclTree as tree
use Rattle.def_module.specs.DeclTree.{DeclTree}
use Rattle.def_query.specs.Keys.{IsIn}
use Rattle.def_query.specs.Lawful.{IsLawful}
use Rattle.def_query.specs.Map.{get}
use Rattle.def_query.specs.Settles.{Depends, IsGiven, Settled, Settles}
use Rattle.def_query.specs.declared.step.Step.TheVariants as step
use Rattle.def_query.proofs.Maps.{get_cases}
use Rattle.def_query.proofs.Walks.{in_append_cases, in_append_left, in_append_right}
use Rattle.def_sources.specs.Sources.{Sources}
use Rattle.def_body.specs.Part.{run_body}
use Rattle.def_body.proofs.Sound.{BodyUsesOnly, bodies_are_sound, needs_are_used}
use Rattle.def_check.specs.Body.{body, declarations_in, keys_of, keys_seen, meaning_of}
use Rattle.def_check.specs.Syntax.{syntax_of}
use Rattle.def_check.proofs.Uses.{uses_alias, uses_const, uses_imports}

-- ---- lists

module _ {X Y : Type 0} (f : X → List Y) where
  flat_in : (x : X) (xs : List X) (y : Y) → IsIn x xs → IsIn y (f x) → IsIn y (flat_map f xs)
  flat_in x [] y i h = absurd i
  flat_in x (z ∷ zs) y (inl e) h = in_append_left y (f z) (flat_map f zs) (subst (λ w. IsIn y (f w)) e h)
  flat_in x (z ∷ zs) y (inr i) h = in_append_right y (f z) (flat_map f zs) (flat_in x zs y i h)

  flat_from : (xs : List X) (y : Y) → IsIn y (flat_map f xs) → (x : X) × IsIn x xs × IsIn y (f x)
  flat_from [] y i = absurd i
  flat_from (z ∷ zs) y i =
      elim (in_append_cases y (f z) (flat_map f zs) i) [
        | inl here ↦ (z, inl refl, here)
        | inr there ↦ (let rest = flat_from zs y there in (rest.0, inr rest.1, rest.2))
      ]

-- ---- the keys of a module

of_option : (name : List ℕ) (o : Option Key) (ks : List Key)
    → ((k : Key) → o ≡ Some k → module_of k ≡ name) → ((k : Key) → IsIn k ks → module_of k ≡ name)
    → (k : Key) → IsIn k (cons_option o ks) → module_of k ≡ name
of_option name None ks one others k i = others k i
of_option name (Some x) ks one others k (inl e) = ap module_of e ∙ one x refl
of_option name (Some x) ks one others k (inr i) = others k i

key_module : (name : List ℕ) (d : DeclTree) (k : Key) → key_of name d ≡ Some k → module_of k ≡ name
key_module name (tree.Alias alias) k e = cc
key_module name (tree.Const constant) k e = cc
key_module name _ k e = absurd (cc)

declared_module : (name : List ℕ) (ds : List DeclTree) (k : Key) → IsIn k (keys_declared name ds) → module_of k ≡ name
declared_module name [] k i = elim i [ ]
declared_module name (d ∷ ds) k i =
    of_option name (key_of name d) (keys_declared name ds) (key_module name d) (declared_module name ds) k i

module _ (sources : Sources) where
  module_is : (name : List ℕ) (k : Key) → IsIn k (keys_of sources name) → module_of k ≡ name
  module_is name k (inl e) = ap module_of e
  module_is name k (inr (inl e)) = ap module_of e
  module_is name k (inr (inr i)) = declared_module name (declarations_in (syntax_of sources name)) k i

  -- the names of the modules of the sources
  abbrev names : List (List ℕ)
  names = map (λ (file : List ℕ × List ℕ). file.0) sources.modules

  own_seen : (name : List ℕ) (k : Key) → IsIn k (keys_of sources name) → IsIn k (keys_seen sources name)
  own_seen name k i = flat_in (keys_of sources) name (name ∷ names) k (inl refl) i

  seen_module : (name : List ℕ) (k : Key) → IsIn k (keys_seen sources name) → IsIn (module_of k) (name ∷ names)
  seen_module name k i =
      let from = flat_from (keys_of sources) (name ∷ names) k i in
      subst (λ n. IsIn n (name ∷ names)) (sym (module_is from.0 k from.2)) from.1

  name_among : (name other n : List ℕ) → IsIn other (name ∷ names) → IsIn n (other ∷ names) → IsIn n (name ∷ names)
  name_among name other n i (inl e) = subst (λ m. IsIn m (name ∷ names)) (sym e) i
  name_among name other n i (inr j) = inr j

  seen_more : (name other : List ℕ) (k : Key) → IsIn other (name ∷ names) → IsIn k (keys_seen sources other)
      → IsIn k (keys_seen sources name)
  seen_more name other k among i =
      let from = flat_from (keys_of sources) (other ∷ names) k i in
      flat_in (keys_of sources) from.0 (name ∷ names) k (name_among name other from.0 among from.1) from.2

  -- ---- what is held where answers have settled

  -- a text that is held is the module's; of other things nothing is said
  abbrev IsHeld : (kind : Kind) → List ℕ → Holds kind → Type 0
  IsHeld Syntax name text = syntax_of sources name ≡ Good (held.Syntax text)
  IsHeld Imports name modules = Unit {0}
  IsHeld Alias name type = Unit {0}
  IsHeld Const name value = Unit {0}

  abbrev HoldsIts : (key : Key) → Holds key.kind → Type 0
  HoldsIts key thing = IsHeld key.kind (module_of key) thing

  syntax_done : (kind : Kind) (path : DeclPath) (m : Facts) (a : Answer) → kind ≡ Syntax
      → run_body kind m (body sources kind path) ≡ step.Done a → syntax_of sources path.module ≡ a
  syntax_done Syntax path m a is e = cc
  syntax_done Imports path m a is e = absurd (cc)
  syntax_done Alias path m a is e = absurd (cc)
  syntax_done Const path m a is e = absurd (cc)

  syntax_settles : (key : Key) (a : Answer) → key.kind ≡ Syntax → Settles key_cmp (meaning_of sources) key a
      → syntax_of sources (module_of key) ≡ a
  syntax_settles key a is s = go s.round s.settled
    where
      go : (n : ℕ) → Settled key_cmp (meaning_of sources) n key a → syntax_of sources (module_of key) ≡ a
      go zero h = absurd h
      go (suc n) h = syntax_done key.kind key.path h.0 a is h.2

  given_settles : (x k : Key) (m : Facts) (a : Answer)
      → IsGiven key_cmp (meaning_of sources) (Settles key_cmp (meaning_of sources)) x m
      → get key_cmp m k ≡ Some a → Settles key_cmp (meaning_of sources) k a
  given_settles x k [] a given h = absurd (cc)
  given_settles x k (p ∷ m) a given h =
      elim (get_cases key_cmp key_total key_apart p.0 k p.1 a m h) [
        | inl e ↦ subst (λ b. Settles key_cmp (meaning_of sources) k b) e.1
            (subst (λ q. Settles key_cmp (meaning_of sources) q p.1) (sym e.0) given.1)
        | inr e ↦ given_settles x k m a given.2 e
      ]

  held_is : (kind : Kind) (name : List ℕ) (thing : Holds kind) (h : Held) → held_as kind h ≡ Some thing
      → (kind ≡ Syntax → syntax_of sources name ≡ Good h) → IsHeld kind name thing
  held_is Syntax name thing (held.Syntax text) e is =
      is refl ∙ ap (λ t. Good (held.Syntax t)) (let same : text ≡ thing = cc in same)
  held_is Syntax name thing (held.Imports v) e is = absurd (cc)
  held_is Syntax name thing (held.Alias v) e is = absurd (cc)
  held_is Syntax name thing (held.Const v) e is = absurd (cc)
  held_is Imports name thing h e is = tt
  held_is Alias name thing h e is = tt
  held_is Const name thing h e is = tt

  module _ (x : Key) (m : Facts)
      (given : IsGiven key_cmp (meaning_of sources) (Settles key_cmp (meaning_of sources)) x m) where
    held_by : (key : Key) (thing : Holds key.kind) (o : Option Answer) → get key_cmp m key ≡ o
        → and_then (used_by key o) (λ v. or_spoiled key (held_as key.kind v)) ≡ Given thing → HoldsIts key thing
    held_by key thing None h e = absurd (cc)
    held_by key thing (Some (Bad d)) h e = absurd (cc)
    held_by key thing (Some (Spoiled q)) h e = absurd (cc)
    held_by key thing (Some (Circular c)) h e = absurd (cc)
    held_by key thing (Some (Good v)) h e = go (held_as key.kind v) refl e
      where
        go : (o : Option (Holds key.kind)) → held_as key.kind v ≡ o → or_spoiled key o ≡ Given thing → HoldsIts key thing
        go None is f = absurd (cc)
        go (Some other) is f =
            held_is key.kind (module_of key) thing v (is ∙ ap Some (let same : other ≡ thing = cc in same))
            (λ kind. syntax_settles key (Good v) kind (given_settles x key m (Good v) given h))

    holds : (key : Key) (thing : Holds key.kind) → used m key ≡ Given thing → HoldsIts key thing
    holds key thing e = held_by key thing (get key_cmp m key) refl e

  -- ---- bodies

  declared : (name text : List ℕ) (k : Key) → syntax_of sources name ≡ Good (held.Syntax text)
      → IsIn k (keys_declared name (decls_in text)) → IsIn k (keys_seen sources name)
  declared name text k is i =
      own_seen name k (inr (inr (subst (λ a. IsIn k (keys_declared name (declarations_in a))) (sym is) i)))

  -- the key is among those that a module sees
  abbrev IsSeen : List ℕ → Key → Type 0
  IsSeen name k = IsIn k (keys_seen sources name)

  body_uses : (kind : Kind) (path : DeclPath)
      → BodyUsesOnly (IsSeen path.module) HoldsIts kind (body sources kind path)
  body_uses Syntax path = tt
  body_uses Imports path = uses_imports (IsSeen path.module) HoldsIts path.module (own_seen path.module _ (inl refl))
  body_uses Alias path =
      uses_alias (IsSeen path.module) HoldsIts path (own_seen path.module _ (inl refl)) (own_seen path.module _ (inr (inl refl)))
      (λ text k h i. declared path.module text k h i)
  body_uses Const path =
      uses_const (IsSeen path.module) HoldsIts path (own_seen path.module _ (inl refl)) (own_seen path.module _ (inr (inl refl)))
      (λ text k h i. declared path.module text k h i)

  -- what a key depends on is among the keys that its module sees
  within : (x y : Key) → Depends key_cmp (meaning_of sources) x y → IsIn y (keys_seen sources (module_of x))
  within x y d =
      needs_are_used (IsSeen (module_of x)) HoldsIts x.kind (body sources x.kind x.path)
      d.earlier y (body_uses x.kind x.path) (holds x d.earlier d.given) d.needs

  bound_closed : (k x y : Key) → IsIn x (k ∷ keys_seen sources (module_of k))
      → Depends key_cmp (meaning_of sources) x y → IsIn y (k ∷ keys_seen sources (module_of k))
  bound_closed k x y (inl e) d = inr (subst (λ z. IsIn y (keys_seen sources (module_of z))) e (within x y d))
  bound_closed k x y (inr i) d =
      inr (seen_more (module_of k) (module_of x) y (seen_module (module_of k) x i) (within x y d))

  pub bodies_lawful : IsLawful key_cmp (meaning_of sources)
  bodies_lawful = record {
    one_key = key_apart;
    done_stays = λ k m n a e w. (bodies_are_sound k.kind (body sources k.kind k.path)).done_stays m n a e w;
    needs_stay = λ k m n y e w l. (bodies_are_sound k.kind (body sources k.kind k.path)).needs_stay m n y e w l;
    needs_lacking = λ k m y e. (bodies_are_sound k.kind (body sources k.kind k.path)).needs_lacking m y e;
    circular_stays = λ k m y c e. (bodies_are_sound k.kind (body sources k.kind k.path)).circular_stays m y c e;
    circular_used = λ k m c e. (bodies_are_sound k.kind (body sources k.kind k.path)).circular_used m c e;
    bound_has = λ k. inl refl;
    bound_closed = bound_closed;
  }
