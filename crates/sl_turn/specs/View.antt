-- What the seats of a lock's table know, and how their views are cut and joined.
use Rattle.std.specs.Prelude.{◌≡◌, ◌+◌, ◌≤◌, false, max, List, [], ◌∷◌, ◌++◌, length, drop, ltb, if◌then◌else◌, Option, Some, None}
use Rattle.atomic_table.specs.Table.{Me}
use Rattle.def_turn.specs.Pass.{Lock, PassState, longer, written}
use Rattle.sl_turn.specs.declared.view.View.{View}

-- the view of a seat that was joined into another
abbrev pub spent : {S E : Type 0} → View S E
spent = record {
  subject = None;
  number = 0;
  seen = [];
  joined = [];
  books = [];
  turns = 0;
  next = 0;
  ticket = None;
  in_turn = false;
}

-- the view of the first seat
abbrev pub first_view : {S E : Type 0} → S → View S E
first_view subject = record {
  subject = Some subject;
  number = 1;
  seen = [];
  joined = [];
  books = (1, []) ∷ [];
  turns = 0;
  next = 2;
  ticket = None;
  in_turn = false;
}

-- the view of a seat that gave out its next number
abbrev pub splitting : {S E : Type 0} → View S E → View S E
splitting v = record v { next = v.next + 1 }

-- the view of the seat to which that number was given
abbrev pub split_off : {S E : Type 0} → View S E → View S E
split_off v = record {
  subject = v.subject;
  number = v.next;
  seen = v.seen;
  joined = [];
  books = (v.next, []) ∷ [];
  turns = 0;
  next = 0;
  ticket = None;
  in_turn = false;
}

-- the shorter of two lists, and the second where they are as long
abbrev pub shorter : {E : Type 0} → List E → List E → List E
shorter xs ys = if ltb (length xs) (length ys) then xs else ys

-- the view of a seat into which another was joined
abbrev pub joining : {S E : Type 0} → View S E → View S E → View S E
joining v w = record v {
  seen = longer v.seen w.seen;
  joined = shorter v.seen w.seen;
  books = v.books ++ w.books;
  next = max v.next w.next;
}

-- the view of a seat that gave back a value of this history
abbrev pub given_back : {S E : Type 0} → List E → View S E → View S E
given_back history v = record v {
  seen = history;
  books = written v.number (drop (length v.seen) history) v.books;
  turns = v.turns + 1;
  ticket = None;
  in_turn = false;
}

-- what a caller's contract sees of a view
abbrev pub pass_of : {S E : Type 0} → Lock S → View S E → PassState S E
pass_of lock v = record {
  lock = lock;
  number = v.number;
  seen = v.seen;
  books = v.books;
  turns = v.turns;
  next = v.next;
}

-- the view of a seat between its turns, which carries nothing
pub record IsIdle {S E T : Type 0} (me : Me (Option T) (View S E)) : Type 0 where
  pub numbered : 1 ≤ me.0.number
  pub no_ticket : me.0.ticket ≡ None
  pub not_in_turn : me.0.in_turn ≡ false
  pub carries_nothing : me.1 ≡ []
