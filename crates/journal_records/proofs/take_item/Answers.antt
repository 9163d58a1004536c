use native.Mathlib.Omega.{arith}
use borrow.Author.Tests.{ne_eqb}
use Rattle.journal_records.specs.Items.{item_of, body_length}
use Rattle.journal_records.proofs.Fields.{sized}
use Rattle.journal_records.proofs.take_item.Goals as goal

pub guest_fields-requires : goal.guest_fields-requires
unfolding body_length
guest_fields-requires c = sized 1 c.args.s.now c.in-1.is c.requires.1

pub endpoint_field-requires : goal.endpoint_field-requires
unfolding body_length
endpoint_field-requires c =
    omega (arith, sized 2 c.args.s.now c.in-2.is c.requires.1)

pub bounds-s-5 : goal.bounds-s-5
unfolding body_length
bounds-s-5 c =
    omega (arith, sized 2 c.args.s.now c.in-2.is c.requires.1)

pub start_fields-requires : goal.start_fields-requires
unfolding body_length
start_fields-requires c = sized 3 c.args.s.now c.in-3.is c.requires.1

pub endpoint_field-requires-in-4 : goal.endpoint_field-requires-in-4
unfolding body_length
endpoint_field-requires-in-4 c =
    omega (arith, sized 4 c.args.s.now c.in-4.is c.requires.1)

pub region_fields-requires : goal.region_fields-requires
unfolding body_length
region_fields-requires c =
    sized 4 c.args.s.now c.in-4.is c.requires.1

pub access_item-requires : goal.access_item-requires
unfolding body_length
access_item-requires c =
    (sized 33 c.args.s.now c.in-33.is c.requires.1, c.in-33.is)

pub fetch_item-requires : goal.fetch_item-requires
unfolding body_length
fetch_item-requires c =
    (sized 35 c.args.s.now c.in-35.is c.requires.1, c.in-35.is)

pub returns-in-1 : goal.returns-in-1
unfolding item_of
returns-in-1 c = rw (c.in-1.is, c.guest_fields.ensures)

pub returns-in-2 : goal.returns-in-2
unfolding item_of
returns-in-2 c = rw (c.in-2.is, c.endpoint_field.ensures)

pub returns-in-3 : goal.returns-in-3
unfolding item_of
returns-in-3 c = rw (c.in-3.is, c.start_fields.ensures)

pub returns-in-4 : goal.returns-in-4
unfolding item_of
returns-in-4 c = rw (c.in-4.is, c.endpoint_field-in-4.ensures, c.region_fields.ensures)

pub returns-in-20 : goal.returns-in-20
unfolding item_of
returns-in-20 c = rw c.in-20.is

pub returns-in-34 : goal.returns-in-34
unfolding item_of
returns-in-34 c = rw c.in-34.is

pub returns-in_default : goal.returns-in_default
unfolding item_of
returns-in_default c =
    let r = c.in_default.in_default-own.rest in
    rw (
      ne_eqb _ _ r.0.0.0.0.0.0.0.1,
      ne_eqb _ _ r.0.0.0.0.0.0.1,
      ne_eqb _ _ r.0.0.0.0.0.1,
      ne_eqb _ _ r.0.0.0.0.1,
      ne_eqb _ _ r.0.0.0.1,
      ne_eqb _ _ r.0.0.1,
      ne_eqb _ _ r.0.1,
      ne_eqb _ _ r.1,
    )
