-- A text has one tree at most, and one thing is told of it.
use Rattle.std.proofs.Common.{◌≡◌, ℕ, List, [], ap, subst, ◌∙◌}
use Rattle.std.specs.Prelude.{Option, Some, None}
use Rattle.def_token.specs.Lexical.{Fault, HasTokens, Token}
use Rattle.def_module.specs.DeclTree.{ModuleTree}
use Rattle.def_module.specs.Laws.{SyntaxIsDetermined, TreesAreUnique}
use Rattle.def_module.specs.Syntax.{Answer, Good, Bad, AreRead, AreRefused, IsSyntax, is_good, is_refused, is_twice, is_lexical, of_tokens, twice}
use Rattle.def_module.specs.Twice.{DeclaresOnce, IsDeclaredTwice, declared_twice}
use Rattle.law_module.proofs.Names.{names_told}
use Rattle.law_token.proofs.Determined.{determined as texts_determined}
use Rattle.law_decls.proofs.OneModule.{modules_determined}

one_tree : (tokens : List Token) (this other : ModuleTree) → AreRead tokens this → AreRead tokens other → this ≡ other
one_tree tokens this other p q = ((modules_determined tokens).tree [] [] this other p q).0

not_both : {A : Type 0} (tokens : List Token) (this : ModuleTree) (fault : Fault) → AreRead tokens this → AreRefused tokens fault → A
not_both tokens this fault p q = absurd ((modules_determined tokens).one [] this fault p q)

some_none : {A : Type 0} (o : Option A) (a : A) → o ≡ Some a → o ≡ None → ⊥
some_none o a h k = cc

some_same : {A : Type 0} (o : Option A) (a b : A) → o ≡ Some a → o ≡ Some b → a ≡ b
some_same o a b h k = cc

-- a module declares names once, or one of them twice
once_or_twice : {A : Type 0} (this other : ModuleTree) (name : Token) → this ≡ other → DeclaresOnce this → IsDeclaredTwice other name → A
once_or_twice this other name same once twice =
    absurd (some_none (declared_twice this) name (ap declared_twice same ∙ ((names_told other).twice name).1 twice) ((names_told this).once.1 once))

one_name : (this other : ModuleTree) (a b : Token) → this ≡ other → IsDeclaredTwice this a → IsDeclaredTwice other b → a ≡ b
one_name this other a b same h k =
    some_same (declared_twice this) a b (((names_told this).twice a).1 h) (ap declared_twice same ∙ ((names_told other).twice b).1 k)

one_answer : (tokens : List Token) (this other : Answer) → IsSyntax tokens this → IsSyntax tokens other → this ≡ other
one_answer tokens this other (is_good {tree = t} p d) (is_good {tree = u} q e) = ap Good (one_tree tokens t u p q)
one_answer tokens this other (is_good {tree = t} p d) (is_refused {fault = f} q) = not_both tokens t f p q
one_answer tokens this other (is_good {tree = t} p d) (is_twice {tree = u} {name = a} q e) = once_or_twice t u a (one_tree tokens t u p q) d e
one_answer tokens this other (is_refused {fault = f} p) (is_good {tree = u} q e) = not_both tokens u f q p
one_answer tokens this other (is_refused {fault = f} p) (is_refused {fault = g} q) = ap Bad ((modules_determined tokens).fault f g p q)
one_answer tokens this other (is_refused {fault = f} p) (is_twice {tree = u} q e) = not_both tokens u f q p
one_answer tokens this other (is_twice {tree = t} {name = a} p d) (is_good {tree = u} q e) = once_or_twice u t a (one_tree tokens u t q p) e d
one_answer tokens this other (is_twice {tree = t} p d) (is_refused {fault = f} q) = not_both tokens t f p q
one_answer tokens this other (is_twice {tree = t} {name = a} p d) (is_twice {tree = u} {name = b} q e) =
    ap (λ (name : Token). Bad (twice name)) (one_name t u a b (one_tree tokens t u p q) d e)

one_text : (text : List ℕ) (this other : Answer) (these others : List Token) → HasTokens text these → HasTokens text others
    → IsSyntax these this → IsSyntax others other → this ≡ other
one_text text this other these others h k p q =
    one_answer others this other (subst (λ tokens. IsSyntax tokens this) ((texts_determined text).tokens these others h k) p) q

pub trees_unique : TreesAreUnique
trees_unique text this other p q =
    one_tree q.tokens this other (subst (λ tokens. AreRead tokens this) ((texts_determined text).tokens p.tokens q.tokens p.lexed q.lexed) p.read) q.read

pub syntax_determined : SyntaxIsDetermined
syntax_determined text this other (is_lexical {fault = f} p) (is_lexical {fault = g} q) = ap Bad ((texts_determined text).fault f g p q)
syntax_determined text this other (is_lexical {fault = f} p) (of_tokens {tokens = others} k q) = absurd ((texts_determined text).one others f k p)
syntax_determined text this other (of_tokens {tokens = these} h p) (is_lexical {fault = g} q) = absurd ((texts_determined text).one these g h q)
syntax_determined text this other (of_tokens {tokens = these} h p) (of_tokens {tokens = others} k q) = one_text text this other these others h k p q
