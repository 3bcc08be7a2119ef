-- Declarations and what stands in them have tokens.
use Rattle.std.proofs.Common.{inl, inr}
use Rattle.def_tree.specs.Limits.{Nesting}
use Rattle.def_decl_reading.specs.DeclReading.{decl_form}
use Rattle.def_decl_reading.specs.MemberReading.{member_form, addition_form, item_form}
use Rattle.law_decls.proofs.Gives.{Eats}

pub eats_decl : (around : Nesting) → Eats (decl_form around)
eats_decl around = search (tt, inl, inr) depth 60

pub eats_member : (around : Nesting) → Eats (member_form around)
eats_member around = search (tt, inl, inr) depth 60

pub eats_addition : (around : Nesting) → Eats (addition_form around)
eats_addition around = search (tt, inl, inr) depth 60

pub eats_item : (around : Nesting) → Eats (item_form around)
eats_item around = search (tt, inl, inr) depth 60
