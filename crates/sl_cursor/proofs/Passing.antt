-- Tokens that stand next, and places behind them.
use Rattle.std.proofs.Common.{◌≡◌, ℕ, zero, suc, ◌≤◌, Bool, true, List, [], ◌∷◌, length, drop, length-drop, refl, sym, ap, subst, ◌∙◌, arith}
use Rattle.std.specs.Prelude.{Option, Some, None}
use Rattle.std.specs.Option.{option_map}
use Rattle.def_token.specs.Lexical as lexical
use Rattle.def_tree.specs.Limits.{Entry, plain}
use Rattle.def_tree.specs.Symbol.{Symbol, symbol}
use Rattle.def_reading.specs.Cursor as places
use Rattle.def_reading.specs.Cursor.{At, advance, noted}
use Rattle.law_types.proofs.LimitSpots.{same_place}
use Rattle.sl_token.specs.View.{token_in, tokens_in}
use Rattle.sl_token.specs.declared.token.Token.{Token}
use Rattle.sl_cursor.specs.Following.{IsToldBy, IsAt, IsPassed, IsNoting}
use Rattle.sl_cursor.specs.Seen.{IsAfter, deep_by, place_in, told_in}
use Rattle.sl_cursor.specs.Tries.{IsIn}
use Rattle.sl_cursor.specs.declared.cursor.Cursor.{Cursor}
use Rattle.sl_cursor.specs.declared.source.Here.{Here}
use Rattle.sl_cursor.specs.declared.source.Source.{Source}
use Rattle.sl_cursor.proofs.Places.{at_tokens, behind_first}

pub told_later : (at at' : ℕ) (limit : Option places.Told) → at ≤ at' → IsToldBy at limit → IsToldBy at' limit
told_later at at' None h t = tt
told_later at at' (Some told) h t = omega (arith, h, t)

dropped : {A : Type 0} (n : ℕ) (xs : List A) (x : A) (after : List A) → drop n xs ≡ x ∷ after → drop 1 (drop n xs) ≡ drop (suc n) xs
dropped zero xs x after h = refl
dropped (suc n) [] x after h = absurd (cc)
dropped (suc n) (y ∷ ys) x after h = dropped n ys x after h

-- the place behind the next token is one among the source's tokens
pub behind_is_in : (source : Source) (from to : Cursor) (first : Token) (after : List Token) → from.rest.now ≡ first ∷ after → IsIn source from → to.at ≡ suc from.at → to.rest.now ≡ drop 1 from.rest.now → IsIn source to
behind_is_in source from to first after is i at rest =
    let tokens = source.tokens.now in
    let here : drop from.at tokens ≡ first ∷ after = sym i.rest ∙ is in
    record {
      rest = rest ∙ ap (drop 1) i.rest ∙ dropped from.at tokens first after here ∙ ap (λ n. drop n tokens) (sym at);
      within = let many = ap length here in let less = length-drop from.at tokens in omega (arith, many, less, at, i.within);
    }

pub passed_token : (source : Source) (test : Symbol → Bool) (from to : Here) (first : Token) (after : List Token) → from.place.rest.now ≡ first ∷ after
    → test (symbol (token_in source.bytes.now first)) ≡ true → IsAt source from.place → IsAfter from.place to.place → to.reach ≡ from.reach → IsPassed source test plain from first to
passed_token source test from to first after is fits i a reach =
    let bytes = source.bytes.now in
    let same = same_place (behind_first bytes from.place to.place first after is a) in
    record {
      more = tokens_in bytes after;
      are = ap (tokens_in bytes) is;
      fits = fits;
      place = a.place bytes;
      rises = λ h. sym a.limit ∙ h;
      reach = reach;
      on = same.0;
      behind = record {
        stands = behind_is_in source from.place to.place first after is i.stands same.0 a.rest;
        told = subst (λ limit. IsToldBy to.place.at (option_map (told_in bytes) limit)) (sym a.limit)
            (told_later from.place.at to.place.at (option_map (told_in bytes) from.place.limit) (omega (arith, same.0)) i.told);
      };
    }

-- the place behind the next token, if there is one
pub after_on : (from to : Cursor) → IsAfter from to → (rest : List Token) → from.rest.now ≡ rest → from.at ≤ to.at
after_on from to a [] is = let same = same_place (a.place [] ∙ ap (λ ts. advance plain (at_tokens [] from ts)) is) in omega (arith, same.0)
after_on from to a (first ∷ after) is = let same = same_place (behind_first [] from to first after is a) in omega (arith, same.0)

after_told : (source : Source) (from to : Cursor) → IsAfter from to → from.at ≤ to.at → IsAt source from → IsToldBy to.at (option_map (told_in source.bytes.now) to.limit)
after_told source from to a on i =
    subst (λ limit. IsToldBy to.at (option_map (told_in source.bytes.now) limit)) (sym a.limit) (told_later from.at to.at (option_map (told_in source.bytes.now) from.limit) on i.told)

pub after_at : (source : Source) (from to : Cursor) → IsAfter from to → (rest : List Token) → from.rest.now ≡ rest → IsAt source from → IsAt source to
after_at source from to a [] is i =
    let same = same_place (a.place [] ∙ ap (λ ts. advance plain (at_tokens [] from ts)) is) in
    record {
      stands = record {
        rest = a.rest ∙ ap (drop 1) is ∙ sym is ∙ i.stands.rest ∙ ap (λ n. drop n source.tokens.now) (sym same.0);
        within = omega (arith, same.0, i.stands.within);
      };
      told = after_told source from to a (after_on from to a [] is) i;
    }
after_at source from to a (first ∷ after) is i =
    let same = same_place (behind_first [] from to first after is a) in
    record {
      stands = behind_is_in source from to first after is i.stands same.0 a.rest;
      told = after_told source from to a (after_on from to a (first ∷ after) is) i;
    }

told_noting : (at before : ℕ) (limit : Option places.Told) (entry : Entry) (token : lexical.Token) → before ≤ at → IsToldBy at limit → IsToldBy at (noted limit entry before token)
told_noting at before limit None token h t = t
told_noting at before (Some told) (Some l) token h t = t
told_noting at before None (Some l) token h t = h

-- the place behind the next token, where it opens too much or not
pub passed_noting : (source : Source) (test : Symbol → Bool) (deep : Bool) (from : Here) (token : Token) (behind to : Here) → IsPassed source test plain from token behind → IsNoting deep from.place.at token behind to
    → IsPassed source test (deep_by deep) from token to
passed_noting source test deep from token behind to p n =
    let bytes = source.bytes.now in
    let limit = option_map (told_in bytes) from.place.limit in
    let first = token_in bytes token in
    let stood : place_in bytes behind.place ≡ At (suc from.place.at) limit p.more = p.place ∙ ap (λ ts. advance plain (At from.place.at limit ts)) p.are in
    let same = same_place stood in
    let now : option_map (told_in bytes) to.place.limit ≡ noted limit (deep_by deep) from.place.at first = n.limit bytes ∙ ap (λ limit. noted limit (deep_by deep) from.place.at first) same.1 in
    record {
      more = p.more;
      are = p.are;
      fits = p.fits;
      place = ap (λ limit. At to.place.at limit (tokens_in bytes to.place.rest.now)) now
          ∙ ap (λ at. At at (noted limit (deep_by deep) from.place.at first) (tokens_in bytes to.place.rest.now)) (n.stays ∙ p.on)
          ∙ ap (At (suc from.place.at) (noted limit (deep_by deep) from.place.at first)) (ap (tokens_in bytes) n.rest ∙ same.2)
          ∙ sym (ap (λ ts. advance (deep_by deep) (At from.place.at limit ts)) p.are);
      rises = λ h. p.rises (n.rises h);
      reach = n.reach ∙ p.reach;
      on = n.stays ∙ p.on;
      behind = record {
        stands = record { rest = n.rest ∙ p.behind.stands.rest ∙ ap (λ n. drop n source.tokens.now) (sym n.stays); within = omega (arith, n.stays, p.behind.stands.within) };
        told = subst (IsToldBy to.place.at) (sym (n.limit bytes))
            (told_noting to.place.at from.place.at (option_map (told_in bytes) behind.place.limit) (deep_by deep) first (omega (arith, n.stays, p.on))
            (subst (λ at. IsToldBy at (option_map (told_in bytes) behind.place.limit)) (sym n.stays) p.behind.told));
      };
    }
