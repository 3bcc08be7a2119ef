-- Where tokens begin with one tree at most, what is told of them is determined.
use Rattle.std.proofs.Common.{◌≡◌, ℕ, zero, suc, ◌+◌, ◌<◌, ◌≤◌, true, List, [], ◌∷◌, ◌++◌, length, take, refl, sym, ap, subst, ◌∙◌, arith, append-nil, append_assoc, ⊎_elim, le_refl, zero-add}
use Rattle.std.specs.Prelude.{Option, Some, None, is_none, slice_get}
use Rattle.std.specs.List.{list_all}
use Rattle.std.proofs.lemmas.Bool.{false≢true, and_parts, cases_lt}
use Rattle.std.proofs.Math.Nat.{le_antisymm}
use Rattle.std.proofs.Math.Seq.{take-length}
use Rattle.def_token.specs.Lexical.{Fault, Token}
use Rattle.def_tree.specs.Fault.{Spot, IsUpTo, at_an_earlier, at_the_same, code_of, first_spot, spot_of, fault_at, Continues, AtMostOne, AreRefusedLast, IsFurthest, IsLast, IsRefused, IsRead, HasFault, IsDetermined}
use Rattle.def_tree.specs.Limits.{Limit, Deep, Long, Entry}

abbrev spot_with : ℕ → ℕ → Spot
spot_with at code = record { at = at; code = code }

-- the spot of a token that no tree continues
abbrev unexpected : ℕ → Spot
unexpected at = spot_with at 110

-- two spots that stand up to each other are one
one_spot : (this other : Spot) → IsUpTo this other → IsUpTo other this → this ≡ other
one_spot this other (at_an_earlier h) (at_an_earlier k) = absurd (omega (arith, h, k))
one_spot this other (at_an_earlier h) (at_the_same k c) = absurd (omega (arith, h, k))
one_spot this other (at_the_same h c) (at_an_earlier k) = absurd (omega (arith, h, k))
one_spot this other (at_the_same h c) (at_the_same k d) =
    let code : this.code ≡ other.code = omega (arith, c, d) in
    ap (λ at. spot_with at this.code) h ∙ ap (spot_with other.at) code

limit_code : (limit : Limit) → 110 < code_of limit
limit_code Deep = omega arith
limit_code Long = omega arith

-- a tree is refused behind its tokens, or at a limit on the way, and then no matter how many there are
data IsFirst (from many : ℕ) (entries : List Entry) : Type 0 where
  behind_all : first_spot from many entries ≡ unexpected (from + many) → IsFirst from many entries
  at_a_limit : (first_spot from many entries).at < from + many → 110 < (first_spot from many entries).code
      → ((more : ℕ) → many ≤ more → first_spot from more entries ≡ first_spot from many entries) → IsFirst from many entries

step_more : (from many : ℕ) (here entries : List Entry) → first_spot from (suc many) here ≡ first_spot (suc from) many entries
    → ((n : ℕ) → first_spot from (suc n) here ≡ first_spot (suc from) n entries)
    → ((n : ℕ) → many ≤ n → first_spot (suc from) n entries ≡ first_spot (suc from) many entries)
    → (n : ℕ) → suc many ≤ n → first_spot from n here ≡ first_spot from (suc many) here
step_more from many here entries is each more zero h = absurd (omega (arith, h))
step_more from many here entries is each more (suc n) h = each n ∙ more n (omega (arith, h)) ∙ sym is

step_first : (from many : ℕ) (here entries : List Entry) → first_spot from (suc many) here ≡ first_spot (suc from) many entries
    → ((n : ℕ) → first_spot from (suc n) here ≡ first_spot (suc from) n entries)
    → IsFirst (suc from) many entries → IsFirst from (suc many) here
step_first from many here entries is each (behind_all h) = behind_all (is ∙ h ∙ ap unexpected (omega arith))
step_first from many here entries is each (at_a_limit h c more) =
    at_a_limit (omega (arith, h, ap (λ (s : Spot). s.at) is)) (omega (arith, c, ap (λ (s : Spot). s.code) is)) (step_more from many here entries is each more)

limit_more : (from many : ℕ) (limit : Limit) (entries : List Entry) (n : ℕ) → suc many ≤ n → first_spot from n (Some limit ∷ entries) ≡ spot_with from (code_of limit)
limit_more from many limit entries zero h = absurd (omega (arith, h))
limit_more from many limit entries (suc n) h = refl

first_is : (from many : ℕ) (entries : List Entry) → IsFirst from many entries
first_is from zero entries = behind_all (ap unexpected (omega arith))
first_is from (suc many) [] = step_first from many [] [] refl (λ n. refl) (first_is (suc from) many [])
first_is from (suc many) (None ∷ entries) = step_first from many (None ∷ entries) entries refl (λ n. refl) (first_is (suc from) many entries)
first_is from (suc many) (Some limit ∷ entries) = at_a_limit (omega arith) (limit_code limit) (limit_more from many limit entries)

-- entries without a limit
no_limit : (from many : ℕ) (entries : List Entry) → list_all is_none entries ≡ true → first_spot from many entries ≡ unexpected (from + many)
no_limit from zero entries h = ap unexpected (omega arith)
no_limit from (suc many) [] h = no_limit (suc from) many [] h ∙ ap unexpected (omega arith)
no_limit from (suc many) (None ∷ entries) h = no_limit (suc from) many entries (and_parts true (list_all is_none entries) h).1 ∙ ap unexpected (omega arith)
no_limit from (suc many) (Some limit ∷ entries) h = absurd (false≢true h)

-- a longer front of tokens begins with a shorter one
record IsLonger (tokens : List Token) (many more : ℕ) : Type 0 where
  between : List Token
  is : take more tokens ≡ take many tokens ++ between

longer : (tokens : List Token) (many more : ℕ) → many ≤ more → IsLonger tokens many more
longer tokens zero more h = record { between = take more tokens; is = refl }
longer [] (suc many) zero h = record { between = []; is = refl }
longer [] (suc many) (suc more) h = record { between = []; is = refl }
longer (token ∷ tokens) (suc many) zero h = absurd (omega (arith, h))
longer (token ∷ tokens) (suc many) (suc more) h =
    let l = longer tokens many more (omega (arith, h)) in record { between = l.between; is = ap (λ ts. token ∷ ts) l.is }

module _ {Tree : Type 0} (IsPart : List Token → Tree → List Token → Type 0) where
  -- a tree that continues more tokens continues fewer
  continues_fewer : (tokens : List Token) (many more : ℕ) (tree : Tree) → many ≤ more → Continues IsPart (take more tokens) tree → Continues IsPart (take many tokens) tree
  continues_fewer tokens many more tree h c =
      let l = longer tokens many more h in
      record {
        more = l.between ++ c.more;
        rest = c.rest;
        part = subst (λ ts. IsPart ts tree c.rest) (ap (λ ts. ts ++ c.more) l.is ∙ append_assoc (take many tokens) l.between c.more) c.part;
      }

  -- a tree of tokens continues them
  continues_all : (tokens rest : List Token) (tree : Tree) → IsPart tokens tree rest → Continues IsPart (take (length tokens) tokens) tree
  continues_all tokens rest tree part =
      record {
        more = [];
        rest = rest;
        part = subst (λ ts. IsPart ts tree rest) (sym (append-nil (take (length tokens) tokens) ∙ take-length tokens)) part;
      }

module _ {Tree : Type 0} (IsPart : List Token → Tree → List Token → Type 0) (entries_of : Tree → List Entry) where
  abbrev Refused : List Token → Spot → Type 0
  Refused tokens spot = IsRefused IsPart entries_of tokens spot

  not_behind_by : (many more : ℕ) (entries : List Entry) → many < more → spot_of more entries ≡ unexpected many → IsFirst 0 more entries → ⊥
  not_behind_by many more entries less h (behind_all k) = omega (arith, less, ap (λ (s : Spot). s.at) (sym h ∙ k))
  not_behind_by many more entries less h (at_a_limit k c all) = omega (arith, c, ap (λ (s : Spot). s.code) h)

  -- no spot of a tree that reaches further is that of a token before
  not_behind : (many more : ℕ) (entries : List Entry) → many < more → spot_of more entries ≡ unexpected many → ⊥
  not_behind many more entries less h = not_behind_by many more entries less h (first_is 0 more entries)

  up_to_behind_by : (many : ℕ) (spot : Spot) (tree : Tree) → spot_of many (entries_of tree) ≡ spot → IsUpTo (unexpected many) spot → IsFirst 0 many (entries_of tree) → spot ≡ unexpected many
  up_to_behind_by many spot tree is u (behind_all k) = sym is ∙ k ∙ ap unexpected (zero-add many)
  up_to_behind_by many spot tree is (at_an_earlier u) (at_a_limit k c all) = absurd (omega (arith, u, k, ap (λ (s : Spot). s.at) is))
  up_to_behind_by many spot tree is (at_the_same u d) (at_a_limit k c all) = absurd (omega (arith, u, k, ap (λ (s : Spot). s.at) is))

  -- a spot up to which a token behind so many stands is that token's
  up_to_behind : (many : ℕ) (spot : Spot) (tree : Tree) → spot_of many (entries_of tree) ≡ spot → IsUpTo (unexpected many) spot → spot ≡ unexpected many
  up_to_behind many spot tree is u = up_to_behind_by many spot tree is u (first_is 0 many (entries_of tree))

  -- no tree that continues more tokens is without a limit where the spot stays
  not_without : (tokens : List Token) (spot : Spot) (p : Refused tokens spot) (more : ℕ) (tree : Tree) → p.many < more → more ≤ length tokens
      → Continues IsPart (take more tokens) tree → spot_of p.many (entries_of tree) ≡ unexpected p.many → ⊥
  not_without tokens spot p more tree less within c clean =
      let fewer = continues_fewer IsPart tokens p.many more tree (omega (arith, less)) c in
      let same = up_to_behind p.many spot p.tree p.refused (subst (λ s. IsUpTo s spot) clean (p.last tree fewer)) in
      let stays = p.stays more less within tree c in
      not_behind p.many more (entries_of stays.0) less (stays.2 ∙ same)

  further_by : (tokens : List Token) (this other : Spot) (p : Refused tokens this) (q : Refused tokens other) → p.many < q.many
      → IsFirst 0 p.many (entries_of q.tree) → IsUpTo other this
  further_by tokens this other p q less (behind_all k) =
      absurd (not_without tokens this p q.many q.tree less q.within q.reached (k ∙ ap unexpected (zero-add p.many)))
  further_by tokens this other p q less (at_a_limit k c all) =
      subst (λ s. IsUpTo s this) (sym (all q.many (omega (arith, less))) ∙ q.refused)
      (p.last q.tree (continues_fewer IsPart tokens p.many q.many q.tree (omega (arith, less)) q.reached))

  -- where one account reaches further, the other has the same spot
  further : (tokens : List Token) (this other : Spot) (p : Refused tokens this) (q : Refused tokens other) → p.many < q.many → IsUpTo other this
  further tokens this other p q less = further_by tokens this other p q less (first_is 0 p.many (entries_of q.tree))

  back : (tokens : List Token) (this other : Spot) (p : Refused tokens this) (q : Refused tokens other) → p.many < q.many → IsUpTo this other
  back tokens this other p q less =
      let stays = p.stays q.many less q.within q.tree q.reached in
      subst (λ s. IsUpTo s other) stays.2 (q.last stays.0 stays.1)

  level : (tokens : List Token) (this other : Spot) (p : Refused tokens this) (q : Refused tokens other) → p.many ≡ q.many → IsUpTo this other
  level tokens this other p q same =
      let c : Continues IsPart (take q.many tokens) p.tree = subst (λ n. Continues IsPart (take n tokens) p.tree) same p.reached in
      subst (λ s. IsUpTo s other) (ap (λ n. spot_of n (entries_of p.tree)) (sym same) ∙ p.refused) (q.last p.tree c)

  same_spot : (tokens : List Token) (this other : Spot) → Refused tokens this → Refused tokens other → this ≡ other
  same_spot tokens this other p q =
      ⊎_elim (λ less. one_spot this other (back tokens this other p q less) (further tokens this other p q less))
      (λ most. ⊎_elim (λ less. one_spot this other (further tokens other this q p less) (back tokens other this q p less))
      (λ least.
      let same = le_antisymm least most in
      one_spot this other (level tokens this other p q same) (level tokens other this q p (sym same)))
      (cases_lt q.many p.many))
      (cases_lt p.many q.many)

  some_is : (o : Option Token) (a b : Token) → o ≡ Some a → o ≡ Some b → a ≡ b
  some_is o a b h k = cc

  same_fault : (tokens : List Token) (this other : Fault) → HasFault IsPart entries_of tokens this → HasFault IsPart entries_of tokens other → this ≡ other
  same_fault tokens this other p q =
      let spot = same_spot tokens p.spot q.spot p.refused q.refused in
      let token = some_is (slice_get tokens p.spot.at) p.token q.token p.stands (ap (λ (s : Spot). slice_get tokens s.at) spot ∙ q.stands) in
      p.told ∙ ap (λ (s : Spot). fault_at s.code p.token) spot ∙ ap (fault_at q.spot.code) token ∙ sym q.told

  -- the token behind all of them is none
  not_at_end : (spot : Spot) (many : ℕ) → spot.at < many → IsUpTo (unexpected many) spot → ⊥
  not_at_end spot many inside (at_an_earlier k) = omega (arith, inside, k)
  not_at_end spot many inside (at_the_same k c) = omega (arith, inside, k)

  not_both : (tokens rest : List Token) (tree : Tree) (fault : Fault) → IsRead IsPart entries_of tokens tree rest → HasFault IsPart entries_of tokens fault → ⊥
  not_both tokens rest tree fault read p =
      let r = p.refused in
      let all = continues_all IsPart tokens rest tree read.part in
      let clean : (n : ℕ) → spot_of n (entries_of tree) ≡ unexpected n =
      λ n. no_limit 0 n (entries_of tree) read.limited ∙ ap unexpected (zero-add n) in
      ⊎_elim (λ less. not_without tokens p.spot r (length tokens) tree less (le_refl (length tokens)) all (clean r.many))
      (λ most.
      let same = le_antisymm r.within most in
      not_at_end p.spot r.many (subst (λ n. p.spot.at < n) (sym same) r.inside)
      (subst (λ s. IsUpTo s p.spot) (clean r.many) (r.last tree (subst (λ n. Continues IsPart (take n tokens) tree) (sym same) all))))
      (cases_lt r.many (length tokens))

  -- what is told is determined
  pub determined : AtMostOne IsPart → (tokens : List Token) → IsDetermined IsPart entries_of tokens
  determined one tokens =
      record {
        tree = λ rest behind this other p q. one tokens rest behind this other p.part q.part;
        fault = same_fault tokens;
        one = not_both tokens;
      }

  last_by : (tokens : List Token) (spot : Spot) (p : Refused tokens spot) (many : ℕ) → p.many < many → many ≤ length tokens
      → (other : Tree) → Continues IsPart (take many tokens) other → IsFirst 0 p.many (entries_of other)
      → IsUpTo (spot_of many (entries_of other)) spot
  last_by tokens spot p many less within other c (behind_all k) =
      absurd (not_without tokens spot p many other less within c (k ∙ ap unexpected (zero-add p.many)))
  last_by tokens spot p many less within other c (at_a_limit k d all) =
      subst (λ s. IsUpTo s spot) (sym (all many (omega (arith, less))))
      (p.last other (continues_fewer IsPart tokens p.many many other (omega (arith, less)) c))

  -- what is told stays so as far as any tree goes
  last_further : (tokens : List Token) (spot : Spot) (p : Refused tokens spot) (many : ℕ) → p.many < many
      → IsFurthest IsPart tokens many → IsLast IsPart entries_of tokens many spot
  last_further tokens spot p many less f =
      let stays = p.stays many less f.within f.tree f.reached in
      record {
        tree = stays.0;
        reached = stays.1;
        refused = stays.2;
        last = λ other c. last_by tokens spot p many less f.within other c (first_is 0 p.many (entries_of other));
      }

  last_here : (tokens : List Token) (spot : Spot) (p : Refused tokens spot) (many : ℕ) → p.many ≡ many
      → IsLast IsPart entries_of tokens many spot
  last_here tokens spot p many same =
      subst (λ n. IsLast IsPart entries_of tokens n spot) same
      (record { tree = p.tree; reached = p.reached; refused = p.refused; last = p.last })

  told_last : (tokens : List Token) (spot : Spot) → Refused tokens spot → (many : ℕ) → IsFurthest IsPart tokens many
      → IsLast IsPart entries_of tokens many spot
  told_last tokens spot p many f =
      ⊎_elim (λ less. last_further tokens spot p many less f)
      (λ most. ⊎_elim (λ less. absurd (f.furthest p.many less p.within p.tree p.reached))
      (λ least. last_here tokens spot p many (le_antisymm least most))
      (cases_lt many p.many))
      (cases_lt p.many many)

  -- what is told is told of the trees that go furthest
  pub refused_last : (tokens : List Token) (spot : Spot) → AreRefusedLast IsPart entries_of tokens spot
  refused_last tokens spot =
      record {
        refused = told_last tokens spot;
        last = λ inside many f l. record {
          many = many;
          within = f.within;
          tree = l.tree;
          reached = l.reached;
          refused = l.refused;
          last = l.last;
          stays = λ more less within other c. absurd (f.furthest more less within other c);
          inside = inside;
        };
      }
