-- Forms that are read as often as they stand there.
use Rattle.std.proofs.Common.{◌≡◌, ℕ, zero, suc, ◌≤◌, ◌<◌, Bool, true, false, List, [], ◌∷◌, ◌++◌, length, map, refl, sym, ap, subst, ◌∙◌, arith, le_refl}
use Rattle.std.specs.Prelude.{Option, None, Err}
use Rattle.std.specs.Option.{option_map}
use Rattle.std.proofs.lemmas.List.{map-append, length-map}
use Rattle.def_token.specs.Lexical as lexical
use Rattle.def_tree.specs.Limits.{Entry}
use Rattle.def_tree.specs.Symbol.{Symbol}
use Rattle.def_reading.specs.Cursor as places
use Rattle.def_reading.specs.Try.{Reads, Reader, try_then, try_as}
use Rattle.law_exprs.proofs.TrySound.{Sound}
use Rattle.def_decl_reading.specs.Form.{Front, Form, Many, Until, begins, is_front, many_in, reads, unless_by, until_in, with_first}
use Rattle.law_decls.proofs.FormRead.{Given, form_read}
use Rattle.law_decls.proofs.FormShorter.{less}
use Rattle.law_decls.proofs.Gives.{Eats}
use Rattle.sl_token.specs.View.{token_in, tokens_in}
use Rattle.sl_token.specs.declared.token.Token.{Token}
use Rattle.sl_cursor.specs.Following.{IsAt, IsRead, Follows, passes, IsPassed}
use Rattle.sl_cursor.specs.Seen.{reach_in, told_in}
use Rattle.sl_stmt.specs.Settling.{IsDecided, Settles}
use Rattle.sl_cursor.specs.Tries.{on_lists}
use Rattle.sl_cursor.specs.declared.source.Here.{Here}
use Rattle.sl_cursor.specs.declared.source.Source.{Source}
use Rattle.sl_cursor.specs.declared.source.Unread.{Unread}
use Rattle.sl_cursor.specs.declared.source.Unread.TheVariants as unread
use Rattle.sl_stmt.proofs.Deciding.{decided_as, decided_then, decides_as}
use Rattle.sl_cursor.proofs.Following.{choice_is, choice_not}
use Rattle.sl_cursor.proofs.Listed.{fronted, as_is, as_fronted, left, fewer_left}
use Rattle.sl_decl.proofs.Deciding.{decides_form, decides_until}

-- one turn is left where there are more turns than tokens
turned : (turns many : ℕ) → many < turns → (k : ℕ) × (turns ≡ suc k) × (many ≤ k)
turned zero many h = absurd (omega (arith, h))
turned (suc k) many h = (k, refl, omega (arith, h))

all_fronted : {B : Type 0} (front : List B) → fronted with_first front [] ≡ front
all_fronted [] = refl
all_fronted (first ∷ front) = ap (with_first first) (all_fronted front)

-- fewer tokens stand behind a form that has one
pub further_on : {A B : Type 0} (source : Source) (view : A → B) (form : Form B) → Eats form
    → (from : Here) (read : A) (to : Here) → IsAt source from.place → IsRead source view (reads form) from read to
    → from.place.at < to.place.at
further_on source view form e from read to at r =
    let bytes = source.bytes.now in
    let tokens = tokens_in bytes from.place.rest.now in
    let given = subst (λ look. Sound (Given form tokens) look) r.tried.is
    (form_read form from.place.at (option_map (told_in bytes) from.place.limit) tokens
    (option_map (reach_in bytes) from.reach)) in
    let few = less form e tokens r.tried.tree given.entries (tokens_in bytes to.place.rest.now) given.gives in
    omega (
      arith,
      few,
      length-map from.place.rest.now (token_in bytes),
      length-map to.place.rest.now (token_in bytes),
      left source from.place at.stands,
      left source to.place r.tried.stands,
    )

module _ {A B : Type 0} (source : Source) (view : A → B) (front : Front) (entry : Entry) (form : lexical.Token → Form B)
  where
    -- the forms that each begin with a token of one kind
    abbrev pub all_many : Form (List B)
    all_many = Many front entry form

    abbrev more_many : ℕ → Reader (List B)
    more_many turns = many_in (is_front front) entry (λ token. reads (form token)) turns

    -- the forms so far stand in front of those that are left
    pub record IsMany (from : Here) (items : List A) (here : Here) : Type 0 where
      pub before : List B
      pub turns : ℕ
      pub many : length here.place.rest.now < turns
      pub is : on_lists source (reads all_many) from ≡ try_as (fronted with_first before)
          (on_lists source (more_many turns) here)
      pub same : here.place.limit ≡ None → before ≡ map view items
      pub rises : here.place.limit ≡ None → from.place.limit ≡ None
      pub on : from.place.at ≤ here.place.at
      pub stands : IsAt source here.place

    pub many_none : (from : Here) (items : List A) → items ≡ [] → IsAt source from.place → IsMany from items from
    many_none from items none' at =
        record {
          before = [];
          turns = suc (length (tokens_in source.bytes.now from.place.rest.now));
          many = omega (arith, length-map from.place.rest.now (token_in source.bytes.now));
          is = sym (as_is (on_lists source (reads all_many) from));
          same = λ h. sym (ap (map view) none');
          rises = λ h. h;
          on = le_refl from.place.at;
          stands = at;
        }

    abbrev one_more : ℕ → lexical.Token → Reader (List B)
    one_more turns token reach place =
        try_then (λ first reach place. try_as (with_first first) (more_many turns reach place))
        (reads (form token) reach place)

    abbrev no_more : Reader (List B)
    no_more reach place = Reads [] place reach

    goes_is : (from : Here) (items : List A) (here : Here) (token : Token) (mid : Here) (l : IsMany from items here)
        → IsPassed source (is_front front) entry here token mid → (k : ℕ) → l.turns ≡ suc k
        → on_lists source (reads all_many) from ≡ try_as (fronted with_first l.before)
        (on_lists source (one_more k (token_in source.bytes.now token)) mid)
    goes_is from items here token mid l p k same =
        l.is ∙ ap (λ turns. try_as (fronted with_first l.before) (on_lists source (more_many turns) here)) same
        ∙ ap (try_as (fronted with_first l.before))
        (choice_is source (is_front front) entry (one_more k) no_more here token mid p)

    pub many_more : (from : Here) (items items' : List A) (here : Here) (token : Token) (mid : Here) (item : A)
        (to : Here) → IsMany from items here → IsPassed source (is_front front) entry here token mid
        → IsRead source view (reads (form (token_in source.bytes.now token))) mid item to → items' ≡ items ++ item ∷ []
        → IsMany from items' to
    many_more from items items' here token mid item to l p r are =
        let t = turned l.turns (length here.place.rest.now) l.many in
        let tree = r.tried.tree in
        record {
          before = l.before ++ tree ∷ [];
          turns = t.0;
          many = let fewer = fewer_left source here.place to.place l.stands.stands r.behind.stands
              (omega (arith, p.on, r.on)) in omega (arith, fewer, t.2);
          is = goes_is from items here token mid l p t.0 t.1
              ∙ ap (λ look. try_as (fronted with_first l.before) (try_then (λ first reach place.
              try_as (with_first first) (more_many t.0 reach place)) look)) r.tried.is
              ∙ as_fronted with_first l.before tree (on_lists source (more_many t.0) to);
          same = λ h.
              ap (λ front. front ++ tree ∷ []) (l.same (p.rises (r.tried.rises h)))
              ∙ ap (λ tree. map view items ++ tree ∷ []) (r.tried.same h)
              ∙ sym (map-append view items (item ∷ [])) ∙ ap (map view) (sym are);
          rises = λ h. l.rises (p.rises (r.tried.rises h));
          on = omega (arith, l.on, p.on, r.on);
          stands = r.behind;
        }

    pub many_last : (from : Here) (items : List A) (here : Here) → IsMany from items here
        → passes (is_front front) (tokens_in source.bytes.now here.place.rest.now) ≡ false
        → IsRead source (λ items. map view items) (reads all_many) from items here
    many_last from items here l no' =
        let t = turned l.turns (length here.place.rest.now) l.many in
        record {
          tried = record {
            tree = fronted with_first l.before [];
            is = l.is ∙ ap (λ turns. try_as (fronted with_first l.before) (on_lists source (more_many turns) here)) t.1
                ∙ ap (try_as (fronted with_first l.before))
                (choice_not source (is_front front) entry (one_more t.0) no_more here no');
            same = λ h. all_fronted l.before ∙ l.same h;
            rises = l.rises;
            stands = l.stands.stands;
          };
          on = l.on;
          behind = l.stands;
        }

    pub many_stops : {C : Type 0} (seen : C → List B) (from : Here) (items : List A) (here : Here) (token : Token)
        (mid : Here) (stop : Unread) → IsMany from items here → IsPassed source (is_front front) entry here token mid
        → Follows source view (reads (form (token_in source.bytes.now token))) mid (Err stop)
        → Follows source seen (reads all_many) from (Err stop)
    many_stops seen from items here token mid (unread.Refused reach) l p f =
        let t = turned l.turns (length here.place.rest.now) l.many in
        goes_is from items here token mid l p t.0 t.1
        ∙ ap (λ look. try_as (fronted with_first l.before) (try_then (λ first reach place.
        try_as (with_first first) (more_many t.0 reach place)) look)) f
    many_stops seen from items here token mid (unread.Deep told) l p f = f
    many_stops seen from items here token mid unread.NoMemory l p f = tt

begins_is : (test : Symbol → Bool) (tokens : List lexical.Token) → begins test tokens ≡ passes test tokens
begins_is test [] = refl
begins_is test (token ∷ tokens) = refl

module _ {A B : Type 0} (source : Source) (view : A → B) (test : Symbol → Bool) (form : Form B) where
  -- the forms up to a token that passes a test
  abbrev pub all_until : Form (List B)
  all_until = Until test form

  abbrev more_until : ℕ → Reader (List B)
  more_until turns = until_in test (reads form) turns

  -- the forms so far stand in front of those that are left
  pub record IsUntil (from : Here) (items : List A) (here : Here) : Type 0 where
    pub before : List B
    pub turns : ℕ
    pub many : length here.place.rest.now < turns
    pub is : on_lists source (reads all_until) from ≡ try_as (fronted with_first before)
        (on_lists source (more_until turns) here)
    pub same : here.place.limit ≡ None → before ≡ map view items
    pub rises : here.place.limit ≡ None → from.place.limit ≡ None
    pub on : from.place.at ≤ here.place.at
    pub stands : IsAt source here.place

  pub until_none : (from : Here) (items : List A) → items ≡ [] → IsAt source from.place → IsUntil from items from
  until_none from items none' at =
      record {
        before = [];
        turns = suc (length (tokens_in source.bytes.now from.place.rest.now));
        many = omega (arith, length-map from.place.rest.now (token_in source.bytes.now));
        is = sym (as_is (on_lists source (reads all_until) from));
        same = λ h. sym (ap (map view) none');
        rises = λ h. h;
        on = le_refl from.place.at;
        stands = at;
      }

  abbrev next_one : ℕ → Reader (List B)
  next_one turns reach place =
      try_then (λ first reach place. try_as (with_first first) (more_until turns reach place)) (reads form reach place)

  turn_is : (b : Bool) (from : Here) (items : List A) (here : Here) (l : IsUntil from items here)
      → passes test (tokens_in source.bytes.now here.place.rest.now) ≡ b → (k : ℕ) → l.turns ≡ suc k
      → on_lists source (reads all_until) from ≡ try_as (fronted with_first l.before)
      (on_lists source (unless_by b (next_one k)) here)
  turn_is b from items here l h k same =
      l.is ∙ ap (λ turns. try_as (fronted with_first l.before) (on_lists source (more_until turns) here)) same
      ∙ ap (λ c. try_as (fronted with_first l.before) (on_lists source (unless_by c (next_one k)) here))
      (begins_is test (tokens_in source.bytes.now here.place.rest.now) ∙ h)

  pub until_more : Eats form → (from : Here) (items items' : List A) (here : Here) (item : A) (to : Here)
      → IsUntil from items here → passes test (tokens_in source.bytes.now here.place.rest.now) ≡ false
      → IsRead source view (reads form) here item to → items' ≡ items ++ item ∷ [] → IsUntil from items' to
  until_more e from items items' here item to l no' r are =
      let t = turned l.turns (length here.place.rest.now) l.many in
      let tree = r.tried.tree in
      record {
        before = l.before ++ tree ∷ [];
        turns = t.0;
        many =
            let fewer = fewer_left source here.place to.place l.stands.stands r.behind.stands
            (further_on source view form e here item to l.stands r) in omega (arith, fewer, t.2);
        is = turn_is false from items here l no' t.0 t.1
            ∙ ap (λ look. try_as (fronted with_first l.before) (try_then (λ first reach place.
            try_as (with_first first) (more_until t.0 reach place)) look)) r.tried.is
            ∙ as_fronted with_first l.before tree (on_lists source (more_until t.0) to);
        same = λ h.
            ap (λ front. front ++ tree ∷ []) (l.same (r.tried.rises h))
            ∙ ap (λ tree. map view items ++ tree ∷ []) (r.tried.same h)
            ∙ sym (map-append view items (item ∷ [])) ∙ ap (map view) (sym are);
        rises = λ h. l.rises (r.tried.rises h);
        on = omega (arith, l.on, r.on);
        stands = r.behind;
      }

  pub until_last : (from : Here) (items : List A) (here : Here) → IsUntil from items here
      → passes test (tokens_in source.bytes.now here.place.rest.now) ≡ true
      → IsRead source (λ items. map view items) (reads all_until) from items here
  until_last from items here l yes' =
      let t = turned l.turns (length here.place.rest.now) l.many in
      record {
        tried = record {
          tree = fronted with_first l.before [];
          is = turn_is true from items here l yes' t.0 t.1;
          same = λ h. all_fronted l.before ∙ l.same h;
          rises = l.rises;
          stands = l.stands.stands;
        };
        on = l.on;
        behind = l.stands;
      }

  pub until_stops : {C : Type 0} (seen : C → List B) (from : Here) (items : List A) (here : Here) (stop : Unread)
      → IsUntil from items here → passes test (tokens_in source.bytes.now here.place.rest.now) ≡ false
      → Settles source view (reads form) here (Err stop) → Settles source seen (reads all_until) from (Err stop)
  until_stops seen from items here (unread.Refused reach) l no' s =
      let t = turned l.turns (length here.place.rest.now) l.many in
      turn_is false from items here l no' t.0 t.1
      ∙ ap (λ look. try_as (fronted with_first l.before) (try_then (λ first reach place.
      try_as (with_first first) (more_until t.0 reach place)) look)) s
  until_stops seen from items here (unread.Deep told) l no' s =
      let t = turned l.turns (length here.place.rest.now) l.many in
      let said = told_in source.bytes.now told in
      let next = λ (first : B) (reach : Option places.FarthestFailure) (place : places.Cursor). try_as (with_first first)
      (more_until t.0 reach place) in
      let one = on_lists source (reads form) here in
      subst (IsDecided said) (sym (turn_is false from items here l no' t.0 t.1))
      (decided_as (fronted with_first l.before) said (try_then next one)
      (decided_then next said one (λ first.
      decides_as (with_first first) (more_until t.0) (decides_until test (reads form) (decides_form form) t.0)) s))
  until_stops seen from items here unread.NoMemory l no' s = tt

-- what stands behind the first of some
pub record Behind {A : Type 0} (first : A) (all : List A) (P : List A → Type 0) : Type 0 where
  pub more : List A
  pub are : all ≡ first ∷ more
  pub holds : P more
