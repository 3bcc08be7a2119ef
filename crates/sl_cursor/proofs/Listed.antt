-- Parts with a comma between them.
use Rattle.std.proofs.Common.{◌≡◌, ℕ, zero, suc, ◌≤◌, ◌<◌, ◌+◌, false, List, [], ◌∷◌, ◌++◌, length, length-drop, map, refl, sym, ap, ◌∙◌, arith, le_refl}
use Rattle.std.specs.Prelude.{Option, None, Err}
use Rattle.std.proofs.lemmas.List.{map-append, length-map}
use Rattle.def_token.specs.Lexical as lexical
use Rattle.def_tree.specs.Limits.{plain}
use Rattle.def_tree.specs.Symbol.{is_sign}
use Rattle.def_reading.specs.Cursor as places
use Rattle.def_reading.specs.Try.{Try, Reads, Stops, Reader, try_then, try_as, choice, listed, ahead}
use Rattle.sl_token.specs.View.{token_in, tokens_in}
use Rattle.sl_token.specs.declared.token.Token.{Token}
use Rattle.sl_cursor.specs.Following.{IsAt, IsRead, Follows, passes, IsPassed}
use Rattle.sl_cursor.specs.Tries.{IsIn, on_lists}
use Rattle.sl_cursor.specs.declared.cursor.Cursor.{Cursor}
use Rattle.sl_cursor.specs.declared.source.Here.{Here}
use Rattle.sl_cursor.specs.declared.source.Source.{Source}
use Rattle.sl_cursor.specs.declared.source.Unread.{Unread}
use Rattle.sl_cursor.specs.declared.source.Unread.TheVariants as unread
use Rattle.sl_cursor.proofs.Following.{choice_is, choice_not}

-- parts in front of others
abbrev pub fronted : {B C : Type 0} → (B → C → C) → List B → C → C
fronted more [] rest = rest
fronted more (first ∷ front) rest = more first (fronted more front rest)

pub fronted_last : {B C : Type 0} (more : B → C → C) (front : List B) (last : B) (rest : C) → fronted more (front ++ last ∷ []) rest ≡ fronted more front (more last rest)
fronted_last more [] last rest = refl
fronted_last more (first ∷ front) last rest = ap (more first) (fronted_last more front last rest)

pub as_is : {C : Type 0} (look : Try C) → try_as (λ (rest : C). rest) look ≡ look
as_is (Reads tree place reach) = refl
as_is (Stops reach) = refl

pub as_fronted : {B C : Type 0} (more : B → C → C) (front : List B) (last : B) (look : Try C) → try_as (fronted more front) (try_as (more last) look) ≡ try_as (fronted more (front ++ last ∷ [])) look
as_fronted more front last (Reads tree place reach) = ap (λ tree. Reads tree place reach) (sym (fronted_last more front last tree))
as_fronted more front last (Stops reach) = refl

-- how many tokens a place has
pub left : (source : Source) (place : Cursor) → IsIn source place → place.at + length place.rest.now ≡ length source.tokens.now
left source place i = let many = ap length i.rest in let less = length-drop place.at source.tokens.now in omega (arith, many, less, i.within)

-- a place further on has fewer tokens
pub fewer_left : (source : Source) (place other : Cursor) → IsIn source place → IsIn source other → place.at < other.at → length other.rest.now < length place.rest.now
fewer_left source place other i k h = omega (arith, left source place i, left source other k, h)

pub no_more_left : (source : Source) (place other : Cursor) → IsIn source place → IsIn source other → place.at ≤ other.at → length other.rest.now ≤ length place.rest.now
no_more_left source place other i k h = omega (arith, left source place i, left source other k, h)

-- turns that are enough are one more than others
pub turned : (turns many : ℕ) → many < turns → (k : ℕ) × (turns ≡ suc k) × (many ≤ k)
turned zero many h = absurd (omega (arith, h))
turned (suc k) many h = (k, refl, omega (arith, h))

module _ {A B C : Type 0} (source : Source) (view : A → B) (more : B → C → C) (none : C) (part : Reader B) where
  abbrev pub all_listed : Reader C
  all_listed reach place = listed more none part (suc (length (ahead place))) reach place

  -- the parts so far stand in front of those that are left
  pub record IsListed (from : Here) (items : List A) (here : Here) : Type 0 where
    pub front : List B
    pub turns : ℕ
    pub many : length here.place.rest.now < turns
    pub is : on_lists source all_listed from ≡ try_as (fronted more front) (on_lists source (listed more none part turns) here)
    pub same : here.place.limit ≡ None → front ≡ map view items
    pub rises : here.place.limit ≡ None → from.place.limit ≡ None
    pub on : from.place.at ≤ here.place.at
    pub stands : IsAt source here.place

  pub listed_none : (from : Here) (items : List A) → items ≡ [] → IsAt source from.place → IsListed from items from
  listed_none from items none' at =
      record {
        front = [];
        turns = suc (length (tokens_in source.bytes.now from.place.rest.now));
        many = omega (arith, length-map from.place.rest.now (token_in source.bytes.now));
        is = sym (as_is (on_lists source all_listed from));
        same = λ h. sym (ap (map view) none');
        rises = λ h. h;
        on = le_refl from.place.at;
        stands = at;
      }

  -- what stands behind a part
  abbrev behind_part : ℕ → B → Reader C
  behind_part turns tree =
      choice (is_sign ",") plain (λ comma reach place. try_as (more tree) (listed more none part turns reach place))
      (λ reach place. Reads (more tree none) place reach)

  part_is : (from : Here) (items : List A) (here : Here) (item : A) (to : Here) (l : IsListed from items here) (r : IsRead source view part here item to) (k : ℕ) → l.turns ≡ suc k
      → on_lists source all_listed from ≡ try_as (fronted more l.front) (on_lists source (behind_part k r.tried.tree) to)
  part_is from items here item to l r k same =
      l.is ∙ ap (λ turns. try_as (fronted more l.front) (on_lists source (listed more none part turns) here)) same
      ∙ ap (λ look. try_as (fronted more l.front) (try_then (behind_part k) look)) r.tried.is

  pub listed_more : (from : Here) (items items' : List A) (here : Here) (item : A) (to : Here) (comma : Token) (next : Here) → IsListed from items here → IsRead source view part here item to
      → items' ≡ items ++ item ∷ [] → IsPassed source (is_sign ",") plain to comma next → IsListed from items' next
  listed_more from items items' here item to comma next l r are p =
      let bytes = source.bytes.now in
      let t = turned l.turns (length here.place.rest.now) l.many in
      let tree = r.tried.tree in
      let yes' = λ (comma : lexical.Token) (reach : Option places.FarthestFailure) (place : places.Cursor). try_as (more tree) (listed more none part t.0 reach place) in
      record {
        front = l.front ++ tree ∷ [];
        turns = t.0;
        many = let less = fewer_left source here.place next.place l.stands.stands p.behind.stands (omega (arith, r.on, p.on)) in omega (arith, less, t.2);
        is = part_is from items here item to l r t.0 t.1
            ∙ ap (try_as (fronted more l.front)) (choice_is source (is_sign ",") plain yes' (λ reach place. Reads (more tree none) place reach) to comma next p)
            ∙ as_fronted more l.front tree (on_lists source (listed more none part t.0) next);
        same = λ h.
            let mid = p.rises h in
            ap (λ front. front ++ tree ∷ []) (l.same (r.tried.rises mid)) ∙ ap (λ tree. map view items ++ tree ∷ []) (r.tried.same mid)
            ∙ sym (map-append view items (item ∷ [])) ∙ ap (map view) (sym are);
        rises = λ h. l.rises (r.tried.rises (p.rises h));
        on = omega (arith, l.on, r.on, p.on);
        stands = p.behind;
      }

  -- the parts, of which the last one ends where no comma stands
  pub listed_last : (all : List B → C) → all [] ≡ none → ((first : B) (others : List B) → all (first ∷ others) ≡ more first (all others))
      → (from : Here) (items items' : List A) (here : Here) (item : A) (to : Here) → IsListed from items here → IsRead source view part here item to
      → items' ≡ items ++ item ∷ [] → passes (is_sign ",") (tokens_in source.bytes.now to.place.rest.now) ≡ false → IsRead source (λ items. all (map view items)) all_listed from items' to
  listed_last all ends goes from items items' here item to l r are no' =
      let t = turned l.turns (length here.place.rest.now) l.many in
      let tree = r.tried.tree in
      let yes' = λ (comma : lexical.Token) (reach : Option places.FarthestFailure) (place : places.Cursor). try_as (more tree) (listed more none part t.0 reach place) in
      record {
        tried = record {
          tree = fronted more l.front (more tree none);
          is = part_is from items here item to l r t.0 t.1
              ∙ ap (try_as (fronted more l.front)) (choice_not source (is_sign ",") plain yes' (λ reach place. Reads (more tree none) place reach) to no');
          same = λ h.
              ap (λ front. fronted more front (more tree none)) (l.same (r.tried.rises h)) ∙ ap (λ tree. fronted more (map view items) (more tree none)) (r.tried.same h)
              ∙ sym (fronted_last more (map view items) (view item) none)
              ∙ all_fronted all ends goes (map view items ++ view item ∷ [])
              ∙ ap all (sym (map-append view items (item ∷ [])) ∙ ap (map view) (sym are));
          rises = λ h. l.rises (r.tried.rises h);
          stands = r.tried.stands;
        };
        on = omega (arith, l.on, r.on);
        behind = r.behind;
      }
    where
      all_fronted : (all : List B → C) → all [] ≡ none → ((first : B) (others : List B) → all (first ∷ others) ≡ more first (all others)) → (front : List B) → fronted more front none ≡ all front
      all_fronted all ends goes [] = sym ends
      all_fronted all ends goes (first ∷ front) = ap (more first) (all_fronted all ends goes front) ∙ sym (goes first front)

  -- a part where nothing is read
  pub listed_stops : {D : Type 0} (view' : D → C) (from : Here) (items : List A) (here : Here) (stop : Unread) → IsListed from items here → Follows source view part here (Err stop) → Follows source view' all_listed from (Err stop)
  listed_stops view' from items here (unread.Refused reach) l f =
      let t = turned l.turns (length here.place.rest.now) l.many in
      l.is ∙ ap (λ turns. try_as (fronted more l.front) (on_lists source (listed more none part turns) here)) t.1
      ∙ ap (λ look. try_as (fronted more l.front) (try_then (behind_part t.0) look)) f
  listed_stops view' from items here (unread.Deep told) l f = f
  listed_stops view' from items here unread.NoMemory l f = tt
