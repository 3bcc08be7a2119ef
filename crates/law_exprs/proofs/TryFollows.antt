-- What a reader comes to beside what it comes to before other tokens with the same front.
use Rattle.std.proofs.Common.{◌≡◌, inl, inr, ℕ, zero, suc, ◌+◌, ◌-◌, ◌≤◌, Bool, true, false, List, ◌∷◌, length, refl, sym, ap, subst, ◌∙◌, arith, le_refl}
use Rattle.std.specs.Prelude.{Option, Some, nat_lt}
use Rattle.std.proofs.lemmas.Bool.Decides.{nat_tests}
use Rattle.def_token.specs.Lexical.{Token}
use Rattle.def_tree.specs.Limits.{Entry, plain}
use Rattle.def_tree.specs.Symbol.{Symbol, symbol, is_sign}
use Rattle.def_reading.specs.Cursor.{Told, At, noted, before, FarthestFailure, told_by}
use Rattle.def_reading.specs.Try.{Try, Reads, Stops, Reader, try_then, try_as, or_else, refused, choice, choice_by, token_then, up_to, listed, ahead}
use Rattle.def_reading.specs.TypeReading.{Ended}
use Rattle.law_types.proofs.AheadFaults.{Grows, same_limit, new_limit}
use Rattle.law_types.proofs.AheadKept.{ended_cons}
use Rattle.law_exprs.proofs.TryComes.{Noted, noted_stays, noted_later}
use Rattle.law_exprs.proofs.TryFronts.{Rises, WayTo, Fronts, Good, good_refused, good_end, good_as, good_then, good_choice, good_listed, good_ahead}
use Rattle.law_exprs.proofs.TryHolds.{Holds, NotEnd, Keeps, holds_then, holds_as, holds_else}

-- limits that end later change nothing of those before a place
pub before_same : (at m : ℕ) (limit limit' : Option Told) → m ≤ at → Grows at limit limit' → before m limit' ≡ before m limit
before_same at m limit limit' h same_limit = refl
before_same at m limit (Some told) h (new_limit same none k) =
    let late : nat_lt told.at m ≡ false = grind (arith, nat_tests, h, k) in rw (late, none) refl

-- what is read ends at this place or behind it
abbrev pub UpFrom : {A : Type 0} → ℕ → Try A → Type 0
UpFrom low (Reads a (At at limit rest) reach) = low ≤ at
UpFrom low (Stops reach) = Unit {0}

-- each reader ends at its place or behind it
pub rises_from : {A : Type 0} (at : ℕ) (limit : Option Told) (look : Try A) → Rises at limit look → UpFrom at look
rises_from at limit (Reads a (At at' limit' rest) reach) r = r.0
rises_from at limit (Stops reach) r = tt

module _ (us us' : List Token) (m : ℕ) (end : Ended us) where
  -- lists with the same first so many tokens, up to a place
  pub data Share : ℕ → List Token → List Token → Type 0 where
    here : Share zero us us'
    one : {n : ℕ} {t : Token} {ts ts' : List Token} → Share n ts ts' → Share (suc n) (t ∷ ts) (t ∷ ts')

  -- these lists end
  pub share_ended : {n : ℕ} {ts ts' : List Token} → Share n ts ts' → Ended ts
  share_ended here = end
  share_ended (one {t = t} {ts = ts} s) = ended_cons t ts (share_ended s)

  -- and have so many tokens at least
  pub share_long : {n : ℕ} {ts ts' : List Token} → Share n ts ts' → n ≤ length ts
  share_long here = omega arith
  share_long (one s) = omega (arith, share_long s)

  -- What is read before the other tokens is read here too, as far as they are the same; or it goes over the place, and
  -- so far counts no more than what is read here; or what is read here goes over the place.
  pub data Followed {A : Type 0} (look : Try A) (a : A) (at : ℕ) (limit : Option Told) (rest' : List Token) : Type 0 where
    same : (n : ℕ) (rest : List Token) (reach : Option FarthestFailure) → m ≡ at + n → Share n rest rest' → look ≡ Reads a (At at limit rest) reach → Followed look a at limit rest'
    ends_here : (b : A) (limit' : Option Told) (reach : Option FarthestFailure) → m ≤ at → Noted m limit' → before m limit ≡ before m limit' → look ≡ Reads b (At m limit' us) reach → Followed look a at limit rest'
    told : m ≤ at → ((w : FarthestFailure) → WayTo m limit us w → Holds w look) → Followed look a at limit rest'
    past : ((w : FarthestFailure) → w.many ≡ m → Holds w look) → Followed look a at limit rest'

  -- what is read before the other tokens is followed here
  abbrev pub Follows : {A : Type 0} → Try A → Try A → Type 0
  Follows look (Reads a (At at limit rest') reach) = Noted at limit × Followed look a at limit rest'
  Follows look (Stops reach) = Unit {0}

  -- two readers, before tokens with the same front of at most so many tokens
  abbrev pub Local : {A : Type 0} → ℕ → Reader A → Reader A → Type 0
  Local most reader other = (n at : ℕ) (limit : Option Told) (ts ts' : List Token) (reach reach' : Option FarthestFailure) → n ≤ most → m ≡ at + n → Share n ts ts' → Noted at limit
      → Follows (reader reach (At at limit ts)) (other reach' (At at limit ts'))

  -- two readers beside each other before such fronts
  pub record Beside {A : Type 0} (most : ℕ) (reader other : Reader A) : Type 0 where
    pub this : Good reader
    pub that : Good other
    pub local : Local most reader other

  -- readers beside each other, before any front
  abbrev pub Always : {A : Type 0} → Reader A → Reader A → Type 0
  Always reader other = (most : ℕ) → Beside most reader other

  follows_as : {A B : Type 0} (make : A → B) (look look' : Try A) → Follows look look' → Follows (try_as make look) (try_as make look')
  follows_as make look (Reads a (At at limit rest') reach) (n, same k rest reach' is s l) = (n, same k rest reach' is s (ap (try_as make) l))
  follows_as make look (Reads a (At at limit rest') reach) (n, ends_here b limit' reach' h n' k l) = (n, ends_here (make b) limit' reach' h n' k (ap (try_as make) l))
  follows_as make look (Reads a (At at limit rest') reach) (n, told h f) = (n, told h (λ w way. holds_as make w look (f w way)))
  follows_as make look (Reads a (At at limit rest') reach) (n, past f) = (n, past (λ w h. holds_as make w look (f w h)))
  follows_as make look (Stops reach) f = tt

  -- a tree made of what is read
  pub beside_as : {A B : Type 0} (make : A → B) (reader other : Reader A) {most : ℕ} → Beside most reader other → Beside most (λ reach place. try_as make (reader reach place)) (λ reach place. try_as make (other reach place))
  beside_as make reader other b =
      record {
        this = good_as make reader b.this;
        that = good_as make other b.that;
        local = λ n at limit ts ts' reach reach' few is s k. follows_as make (reader reach (At at limit ts)) (other reach' (At at limit ts')) (b.local n at limit ts ts' reach reach' few is s k);
      }

  -- the ways to the place that other limits allow
  pub way_same : (limit limit' : Option Told) (w : FarthestFailure) → before m limit ≡ before m limit' → WayTo m limit us w → WayTo m limit' us w
  way_same limit limit' w h way = record { many = way.many; told = ap (λ l. told_by l m us) (sym h) ∙ way.told }

  -- a reader at the place, where the other goes on from there
  pub follows_here : {A : Type 0} (look : Try A) (limit : Option Told) (look' : Try A) → Noted m limit → Fronts m limit us look → (at : ℕ) (limit'' : Option Told) → m ≤ at → before m limit'' ≡ before m limit → Rises at limit'' look' → Follows look look'
  follows_here look limit (Stops reach) n f at limit'' h k r = tt
  follows_here look limit (Reads a (At at' limit' rest') reach) n (inl f) at limit'' h k r =
      (r.2, told (omega (arith, h, r.0)) (λ w way. f w (way_same limit' limit w (before_same at m limit'' limit' h r.1 ∙ k) way)))
  follows_here look limit (Reads a (At at' limit' rest') reach) n (inr f) at limit'' h k r =
      (r.2, ends_here f.tree limit f.reach (omega (arith, h, r.0)) n (before_same at m limit'' limit' h r.1 ∙ k) f.is)

  -- readers at the place
  pub follows_place : {A : Type 0} (reader other : Reader A) → Good reader → Good other → (at : ℕ) (limit : Option Told) (reach reach' : Option FarthestFailure) → m ≡ at → Noted at limit → Follows (reader reach (At at limit us)) (other reach' (At at limit us'))
  follows_place reader other g o at limit reach reach' is n =
      subst (λ at. Follows (reader reach (At at limit us)) (other reach' (At at limit us'))) is
      (follows_here (reader reach (At m limit us)) limit (other reach' (At m limit us')) (subst (λ at. Noted at limit) (sym is) n) (g.fronts m limit us reach end) m limit (le_refl m) refl
      (o.rises m limit us' reach' (subst (λ at. Noted at limit) (sym is) n)))

  -- readers before no front
  pub local_zero : {A : Type 0} (reader other : Reader A) → Good reader → Good other → (most : ℕ) → most ≤ 0 → Local most reader other
  local_zero reader other g o most none zero at limit ts ts' reach reach' few is here k = follows_place reader other g o at limit reach reach' (omega (arith, is)) k
  local_zero reader other g o most none (suc n) at limit ts ts' reach reach' few is s k = absurd (omega (arith, few, none))

  -- such readers beside each other
  pub beside_zero : {A : Type 0} (reader other : Reader A) → Good reader → Good other → (most : ℕ) → most ≤ 0 → Beside most reader other
  beside_zero reader other g o most none = record { this = g; that = o; local = local_zero reader other g o most none }

  -- readers of which the other refuses
  pub beside_none : {A : Type 0} (reader : Reader A) → Good reader → (most : ℕ) → Beside most reader refused
  beside_none {A = A} reader g most = record { this = g; that = good_refused A; local = λ n at limit ts ts' reach reach' few is s k. tt }

  -- what is told of a reader is told of what goes on behind it
  pub then_told : {A B : Type 0} (next : A → Reader B) (look : Try A) (look' : Try B) (at : ℕ) (limit : Option Told) → m ≤ at → ((a : A) → Keeps (next a)) → ((w : FarthestFailure) → WayTo m limit us w → Holds w look) → Rises at limit look'
      → Follows (try_then next look) look'
  then_told next look (Stops reach) at limit h k f r = tt
  then_told next look (Reads a (At at' limit' rest') reach) at limit h k f r =
      (r.2, told (omega (arith, h, r.0)) (λ w way. holds_then next w look (f w (way_same limit' limit w (before_same at m limit limit' h r.1) way)) k))

  -- and what goes over the place stays so
  pub then_past : {A B : Type 0} (next : A → Reader B) (look : Try A) (look' : Try B) (at : ℕ) (limit : Option Told) → ((a : A) → Keeps (next a)) → ((w : FarthestFailure) → w.many ≡ m → Holds w look) → Rises at limit look'
      → Follows (try_then next look) look'
  then_past next look (Stops reach) at limit k f r = tt
  then_past next look (Reads a (At at' limit' rest') reach) at limit k f r = (r.2, past (λ w h. holds_then next w look (f w h) k))

  -- what is read behind something
  pub follows_then : {A B : Type 0} (next next' : A → Reader B) (look look' : Try A) (most low : ℕ) → ((a : A) → Beside most (next a) (next' a)) → m ≤ low + most → UpFrom low look' → Follows look look'
      → Follows (try_then next look) (try_then next' look')
  follows_then next next' look (Stops reach) most low l up r f = tt
  follows_then next next' look (Reads a (At at limit rest') reach) most low l up r (n, same i rest reach' is s same_look) =
      subst (λ look. Follows (try_then next look) (next' a reach (At at limit rest'))) (sym same_look) ((l a).local i at limit rest rest' reach' reach (omega (arith, is, up, r)) is s n)
  follows_then next next' look (Reads a (At at limit rest') reach) most low l up r (n, ends_here b limit' reach' h n' same_limits same_look) =
      subst (λ look. Follows (try_then next look) (next' a reach (At at limit rest'))) (sym same_look)
      (follows_here (next b reach' (At m limit' us)) limit' (next' a reach (At at limit rest')) n' ((l b).this.fronts m limit' us reach' end) at limit h same_limits ((l a).that.rises at limit rest' reach n))
  follows_then next next' look (Reads a (At at limit rest') reach) most low l up r (n, told h f) =
      then_told next look (next' a reach (At at limit rest')) at limit h (λ a. (l a).this.keeps) f ((l a).that.rises at limit rest' reach n)
  follows_then next next' look (Reads a (At at limit rest') reach) most low l up r (n, past f) =
      then_past next look (next' a reach (At at limit rest')) at limit (λ a. (l a).this.keeps) f ((l a).that.rises at limit rest' reach n)

  -- readers one behind another
  pub beside_then : {A B : Type 0} (next next' : A → Reader B) (reader other : Reader A) {most : ℕ} → Beside most reader other → ((a : A) → Beside most (next a) (next' a))
      → Beside most (λ reach place. try_then next (reader reach place)) (λ reach place. try_then next' (other reach place))
  beside_then next next' reader other {most = most} b l =
      record {
        this = good_then next reader b.this (λ a. (l a).this);
        that = good_then next' other b.that (λ a. (l a).that);
        local = λ n at limit ts ts' reach reach' few is s h.
            follows_then next next' (reader reach (At at limit ts)) (other reach' (At at limit ts')) most at l (omega (arith, few, is)) (rises_from at limit (other reach' (At at limit ts')) (b.that.rises at limit ts' reach' h)) (b.local n at limit ts ts' reach reach' few is s h);
      }

  -- where each part takes a token
  pub beside_later : {A B : Type 0} (next next' : A → Reader B) (reader other : Reader A) {most : ℕ} → Beside most reader other
      → ((at : ℕ) (limit : Option Told) (ts : List Token) (reach : Option FarthestFailure) → Noted at limit → UpFrom (suc at) (other reach (At at limit ts))) → ((a : A) → Beside (most - 1) (next a) (next' a))
      → Beside most (λ reach place. try_then next (reader reach place)) (λ reach place. try_then next' (other reach place))
  beside_later next next' reader other {most = most} b later l =
      record {
        this = good_then next reader b.this (λ a. (l a).this);
        that = good_then next' other b.that (λ a. (l a).that);
        local = λ n at limit ts ts' reach reach' few is s h.
            follows_then next next' (reader reach (At at limit ts)) (other reach' (At at limit ts')) (most - 1) (suc at) l (omega (arith, few, is)) (later at limit ts' reach' h) (b.local n at limit ts ts' reach reach' few is s h);
      }

  -- a reader that takes nothing
  pub beside_end : {A : Type 0} (a : A) {most : ℕ} → Beside most (λ reach place. Reads a place reach) (λ reach place. Reads a place reach)
  beside_end a = record { this = good_end a; that = good_end a; local = λ n at limit ts ts' reach reach' few is s h. (h, same n ts reach is s refl) }

  -- a reader that refuses
  pub beside_refused : (A : Type 0) {most : ℕ} → Beside {A = A} most refused refused
  beside_refused A {most = most} = beside_none refused (good_refused A) most

  choice_follows : {A : Type 0} (b : Bool) (entry : Entry) (yes' other_yes : Token → Reader A) (no' other_no : Reader A) (most : ℕ) → ((token : Token) → Local (most - 1) (yes' token) (other_yes token)) → Local most no' other_no
      → (n at : ℕ) (limit : Option Told) (token : Token) (ts ts' : List Token) (reach reach' : Option FarthestFailure) → suc n ≤ most → m ≡ at + suc n → Share n ts ts' → Noted at limit
      → Follows (choice_by b entry yes' no' reach token (At at limit (token ∷ ts))) (choice_by b entry other_yes other_no reach' token (At at limit (token ∷ ts')))
  choice_follows true entry yes' other_yes no' other_no most l k n at limit token ts ts' reach reach' few is s h =
      l token n (suc at) (noted limit entry at token) ts ts' reach reach' (omega (arith, few)) (omega (arith, is)) s (noted_later (noted limit entry at token) at (noted_stays limit entry at token h))
  choice_follows false entry yes' other_yes no' other_no most l k n at limit token ts ts' reach reach' few is s h = k (suc n) at limit (token ∷ ts) (token ∷ ts') reach reach' few is (one s) h

  choice_local : {A : Type 0} (test : Symbol → Bool) (entry : Entry) (yes' other_yes : Token → Reader A) (no' other_no : Reader A) (most : ℕ) → Good (choice test entry yes' no') → Good (choice test entry other_yes other_no)
      → ((token : Token) → Local (most - 1) (yes' token) (other_yes token)) → Local most no' other_no → Local most (choice test entry yes' no') (choice test entry other_yes other_no)
  choice_local test entry yes' other_yes no' other_no most g o l k zero at limit ts ts' reach reach' few is here h =
      follows_place (choice test entry yes' no') (choice test entry other_yes other_no) g o at limit reach reach' (omega (arith, is)) h
  choice_local test entry yes' other_yes no' other_no most g o l k (suc n) at limit ts ts' reach reach' few is (one {t = token} {ts = rest} {ts' = rest'} s) h =
      choice_follows (test (symbol token)) entry yes' other_yes no' other_no most l k n at limit token rest rest' reach reach' few is s h

  -- a choice at a token
  pub beside_choice : {A : Type 0} (test : Symbol → Bool) (entry : Entry) (yes' other_yes : Token → Reader A) (no' other_no : Reader A) {most : ℕ} → NotEnd test → ((token : Token) → Beside (most - 1) (yes' token) (other_yes token)) → Beside most no' other_no
      → Beside most (choice test entry yes' no') (choice test entry other_yes other_no)
  beside_choice test entry yes' other_yes no' other_no {most = most} ne l k =
      let g = good_choice test entry yes' no' ne (λ token. (l token).this) k.this in
      let o = good_choice test entry other_yes other_no ne (λ token. (l token).that) k.that in
      record { this = g; that = o; local = choice_local test entry yes' other_yes no' other_no most g o (λ token. (l token).local) k.local }

  -- a token and what stands behind it
  pub beside_token : {A : Type 0} (test : Symbol → Bool) (entry : Entry) (next other : Token → Reader A) {most : ℕ} → NotEnd test → ((token : Token) → Beside (most - 1) (next token) (other token))
      → Beside most (token_then test entry next) (token_then test entry other)
  beside_token {A = A} test entry next other ne l = beside_choice test entry next other refused refused ne l (beside_refused A)

  abbrev at_mark : {A : Type 0} → (Symbol → Bool) → A → Reader A
  at_mark test a = token_then test plain (λ mark reach place. Reads a place reach)

  -- a mark
  pub beside_mark : {A : Type 0} (test : Symbol → Bool) → NotEnd test → (a : A) {most : ℕ} → Beside most (at_mark test a) (at_mark test a)
  beside_mark test ne a = beside_token test plain (λ mark reach place. Reads a place reach) (λ mark reach place. Reads a place reach) ne (λ mark. beside_end a)

  -- what is read up to a mark
  pub beside_up_to : {A : Type 0} (test : Symbol → Bool) (reader other : Reader A) {most : ℕ} → NotEnd test → Beside most reader other → Beside most (λ reach place. up_to test (reader reach place)) (λ reach place. up_to test (other reach place))
  beside_up_to test reader other ne b = beside_then (at_mark test) (at_mark test) reader other b (λ a. beside_mark test ne a)

  -- parts with a comma between them
  pub beside_listed : {A B : Type 0} (more : A → B → B) (none : B) (part other : Reader A) → Always part other → (turns turns' most : ℕ) → most ≤ turns → Beside most (listed more none part turns) (listed more none other turns')
  beside_listed more none part other b zero turns' most few =
      beside_zero (listed more none part zero) (listed more none other turns') (good_listed more none part (b 0).this zero) (good_listed more none other (b 0).that turns') most few
  beside_listed more none part other b (suc turns) zero most few =
      beside_none (listed more none part (suc turns)) (good_listed more none part (b 0).this (suc turns)) most
  beside_listed {B = B} more none part other b (suc turns) (suc turns') most few =
      beside_then
      (λ a. choice (is_sign ",") plain (λ comma reach place. try_as (more a) (listed more none part turns reach place)) (λ reach place. Reads (more a none) place reach))
      (λ a. choice (is_sign ",") plain (λ comma reach place. try_as (more a) (listed more none other turns' reach place)) (λ reach place. Reads (more a none) place reach))
      part other (b most)
      (λ a. beside_choice (is_sign ",") plain (λ comma reach place. try_as (more a) (listed more none part turns reach place)) (λ comma reach place. try_as (more a) (listed more none other turns' reach place))
      (λ reach place. Reads (more a none) place reach) (λ reach place. Reads (more a none) place reach) refl
      (λ comma. beside_as (more a) (listed more none part turns) (listed more none other turns') (beside_listed more none part other b turns turns' (most - 1) (omega (arith, few))))
      (beside_end (more a none)))

  -- readers with as many turns as there are tokens
  pub beside_turns : {A : Type 0} (reader other : ℕ → Reader A) (top : ℕ) → ((turns turns' most : ℕ) → most ≤ turns → most ≤ top → Beside most (reader turns) (other turns')) → (most : ℕ) → most ≤ top
      → Beside most (λ reach place. reader (suc (length (ahead place))) reach place) (λ reach place. other (suc (length (ahead place))) reach place)
  beside_turns reader other top b most low =
      record {
        this = good_ahead reader (λ turns. (b turns 0 0 (omega arith) (omega arith)).this);
        that = good_ahead other (λ turns. (b 0 turns 0 (omega arith) (omega arith)).that);
        local = λ n at limit ts ts' reach reach' few is s h.
            (b (suc (length ts)) (suc (length ts')) n (omega (arith, share_long s)) (omega (arith, few, low))).local n at limit ts ts' reach reach' (le_refl n) is s h;
      }

  -- the same before any front
  pub beside_ahead : {A : Type 0} (reader other : ℕ → Reader A) → ((turns turns' most : ℕ) → most ≤ turns → Beside most (reader turns) (other turns'))
      → Always (λ reach place. reader (suc (length (ahead place))) reach place) (λ reach place. other (suc (length (ahead place))) reach place)
  beside_ahead reader other b most = beside_turns reader other most (λ turns turns' most few low. b turns turns' most few) most (le_refl most)

  -- what is read is read with another way behind it too
  pub follows_else : {A : Type 0} (next : Reader A) (at : ℕ) (limit : Option Told) (ts : List Token) (look look' : Try A) → Keeps next → Ended ts → Follows look look' → Follows (or_else next (At at limit ts) look) look'
  follows_else next at limit ts look (Stops reach) k e f = tt
  follows_else next at limit ts look (Reads a (At at' limit' rest') reach) k e (n, same i rest reach' is s l) = (n, same i rest reach' is s (ap (or_else next (At at limit ts)) l))
  follows_else next at limit ts look (Reads a (At at' limit' rest') reach) k e (n, ends_here b limit'' reach' h n' sames l) = (n, ends_here b limit'' reach' h n' sames (ap (or_else next (At at limit ts)) l))
  follows_else next at limit ts look (Reads a (At at' limit' rest') reach) k e (n, told h f) = (n, told h (λ w way. holds_else next w at limit ts look e (f w way) k))
  follows_else next at limit ts look (Reads a (At at' limit' rest') reach) k e (n, past f) = (n, past (λ w h. holds_else next w at limit ts look e (f w h) k))
