-- "Known" by example: for each of its sentences programs that obey rules 1 to 5, each with what the six rules give for it; four for
-- the data window, and three of rules 4 and 5. What is known stands on both sides of demand 3's "exactly"; these rows hold it to the
-- paper.
use Rattle.std.specs.Prelude.{ℕ, ◌/◌, ◌%◌, ◌≡◌, List, [], ◌∷◌, map, Ok, Err}
use Rattle.processor.specs.Processor.{Processor, gpu}
use Rattle.verdicts.specs.declared.Refusal.TheVariants.{Broken}
use Rattle.verdicts.specs.declared.Rule.TheVariants.{Ending, Access}
use Rattle.verdicts.specs.Verdicts.{Verdict}
use Rattle.rules.specs.Check.{rules_of}

-- The words of a program, and what the six rules give for it.
pub record Row : Type 0 where
  pub processor : Processor
  pub words : List ℕ
  pub says : Verdict

abbrev row : Processor → List ℕ → Verdict → Row
row processor words says = record { processor = processor; words = words; says = says }

unfoldable pub code_of : List ℕ → List ℕ
code_of [] = []
code_of (w ∷ ws) = w / 256 ∷ w % 256 ∷ code_of ws

unfoldable pub answer_to : Row → Verdict
answer_to r = rules_of r.processor (code_of r.words)

-- the graphics processor with 12 bytes of RAM
abbrev small : Processor
small = record { base = gpu.base; size = 12; flags = gpu.flags; control = gpu.control; divide = gpu.divide; decode = gpu.decode }

unfoldable pub rows : List Row
rows =
    -- "At the first instruction […] all are 0 to 2^32−1 and no"
    -- LOAD (R1),R2; NOP; JR to itself; NOP
    row gpu (0xA422 ∷ 0xE400 ∷ 0xD7E0 ∷ 0xE400 ∷ []) (Err (Broken Access 0xF03000)) ∷
    -- "at each target": the LOAD is one, and then it is none
    -- MOVEI #F03100h,R1; LOAD (R1),R2; JR to the LOAD; NOP
    row gpu (0x9801 ∷ 0x3100 ∷ 0x00F0 ∷ 0xA422 ∷ 0xD7C0 ∷ 0xE400 ∷ []) (Err (Broken Access 0xF03006)) ∷
    -- MOVEI #F03100h,R1; LOAD (R1),R2; JR to itself; NOP
    row gpu (0x9801 ∷ 0x3100 ∷ 0x00F0 ∷ 0xA422 ∷ 0xD7E0 ∷ 0xE400 ∷ []) (Ok tt) ∷
    -- "after a STORE to F02100h", and to no other register, nor to RAM
    -- MOVEI #F02100h,R1; MOVEI #F03100h,R2; STORE R0,(R1); LOAD (R2),R3; JR to itself; NOP
    row gpu (0x9801 ∷ 0x2100 ∷ 0x00F0 ∷ 0x9802 ∷ 0x3100 ∷ 0x00F0 ∷ 0xBC20 ∷ 0xA443 ∷ 0xD7E0 ∷ 0xE400 ∷ []) (Err (Broken Access 0xF0300E)) ∷
    -- MOVEI #F02114h,R1; MOVEI #F03100h,R2; STORE R0,(R1); LOAD (R2),R3; JR to itself; NOP
    row gpu (0x9801 ∷ 0x2114 ∷ 0x00F0 ∷ 0x9802 ∷ 0x3100 ∷ 0x00F0 ∷ 0xBC20 ∷ 0xA443 ∷ 0xD7E0 ∷ 0xE400 ∷ []) (Ok tt) ∷
    -- MOVEI #F0211Ch,R1; MOVEI #F03100h,R2; STORE R0,(R1); LOAD (R2),R3; JR to itself; NOP
    row gpu (0x9801 ∷ 0x211C ∷ 0x00F0 ∷ 0x9802 ∷ 0x3100 ∷ 0x00F0 ∷ 0xBC20 ∷ 0xA443 ∷ 0xD7E0 ∷ 0xE400 ∷ []) (Ok tt) ∷
    -- MOVEI #F03100h,R1; STORE R1,(R1); LOAD (R1),R2; NOP; JR to itself; NOP
    row gpu (0x9801 ∷ 0x3100 ∷ 0x00F0 ∷ 0xBC21 ∷ 0xA422 ∷ 0xE400 ∷ 0xD7E0 ∷ 0xE400 ∷ []) (Ok tt) ∷
    -- "MOVEI and MOVEQ set the exact value and its own yes or no"
    -- MOVEI #F03102h,R1; LOAD (R1),R2; JR to itself; NOP
    row gpu (0x9801 ∷ 0x3102 ∷ 0x00F0 ∷ 0xA422 ∷ 0xD7E0 ∷ 0xE400 ∷ []) (Err (Broken Access 0xF03006)) ∷
    -- MOVEI #F03FF4h,R14; MOVEQ #8,R3; LOAD (R14+R3),R2; NOP; JR to itself; NOP
    row gpu (0x980E ∷ 0x3FF4 ∷ 0x00F0 ∷ 0x8D03 ∷ 0xE862 ∷ 0xE400 ∷ 0xD7E0 ∷ 0xE400 ∷ []) (Ok tt) ∷
    -- MOVEI #F03100h,R14; MOVEQ #6,R3; LOAD (R14+R3),R2; NOP; JR to itself; NOP
    row gpu (0x980E ∷ 0x3100 ∷ 0x00F0 ∷ 0x8CC3 ∷ 0xE862 ∷ 0xE400 ∷ 0xD7E0 ∷ 0xE400 ∷ []) (Err (Broken Access 0xF03008)) ∷
    -- "MOVE copies."
    -- MOVEI #F03100h,R1; MOVE R1,R2; LOAD (R2),R3; NOP; JR to itself; NOP
    row gpu (0x9801 ∷ 0x3100 ∷ 0x00F0 ∷ 0x8822 ∷ 0xA443 ∷ 0xE400 ∷ 0xD7E0 ∷ 0xE400 ∷ []) (Ok tt) ∷
    -- MOVEI #F03102h,R1; MOVE R1,R2; LOAD (R2),R3; NOP; JR to itself; NOP
    row gpu (0x9801 ∷ 0x3102 ∷ 0x00F0 ∷ 0x8822 ∷ 0xA443 ∷ 0xE400 ∷ 0xD7E0 ∷ 0xE400 ∷ []) (Err (Broken Access 0xF03008)) ∷
    -- "AND: from 0 to the smaller upper end, yes if either is yes."
    -- MOVEI #FFCh,R2; AND R2,R1; MOVEI #F03000h,R3; ADD R3,R1; LOAD (R1),R4; NOP; JR to itself; NOP
    row gpu (0x9802 ∷ 0x0FFC ∷ 0x0000 ∷ 0x2441 ∷ 0x9803 ∷ 0x3000 ∷ 0x00F0 ∷ 0x0061 ∷ 0xA424 ∷ 0xE400 ∷ 0xD7E0 ∷ 0xE400 ∷ []) (Ok tt) ∷
    -- MOVEI #FFCh,R1; AND R2,R1; MOVEI #F03000h,R3; ADD R3,R1; LOAD (R1),R4; NOP; JR to itself; NOP
    row gpu (0x9801 ∷ 0x0FFC ∷ 0x0000 ∷ 0x2441 ∷ 0x9803 ∷ 0x3000 ∷ 0x00F0 ∷ 0x0061 ∷ 0xA424 ∷ 0xE400 ∷ 0xD7E0 ∷ 0xE400 ∷ []) (Ok tt) ∷
    -- MOVEI #1FFCh,R2; AND R2,R1; MOVEI #F03000h,R3; ADD R3,R1; LOAD (R1),R4; NOP; JR to itself; NOP
    row gpu (0x9802 ∷ 0x1FFC ∷ 0x0000 ∷ 0x2441 ∷ 0x9803 ∷ 0x3000 ∷ 0x00F0 ∷ 0x0061 ∷ 0xA424 ∷ 0xE400 ∷ 0xD7E0 ∷ 0xE400 ∷ []) (Err (Broken Access 0xF03010)) ∷
    -- MOVEI #1FFCh,R2; AND R2,R1; MOVEI #FFFh,R2; AND R2,R1; MOVEI #F03000h,R3; ADD R3,R1; LOAD (R1),R4; NOP; JR to itself; NOP
    row gpu (0x9802 ∷ 0x1FFC ∷ 0x0000 ∷ 0x2441 ∷ 0x9802 ∷ 0x0FFF ∷ 0x0000 ∷ 0x2441 ∷ 0x9803 ∷ 0x3000 ∷ 0x00F0 ∷ 0x0061 ∷ 0xA424 ∷ 0xE400 ∷ 0xD7E0 ∷ 0xE400 ∷ []) (Ok tt) ∷
    -- MOVEI #FFFh,R2; AND R2,R1; MOVEI #F03000h,R3; ADD R3,R1; LOAD (R1),R4; NOP; JR to itself; NOP
    row gpu (0x9802 ∷ 0x0FFF ∷ 0x0000 ∷ 0x2441 ∷ 0x9803 ∷ 0x3000 ∷ 0x00F0 ∷ 0x0061 ∷ 0xA424 ∷ 0xE400 ∷ 0xD7E0 ∷ 0xE400 ∷ []) (Err (Broken Access 0xF03010)) ∷
    -- and from 0 also where both values are exact
    -- MOVEI #F03100h,R1; MOVEI #F03FFCh,R2; AND R2,R1; LOAD (R1),R3; JR to itself; NOP
    row gpu (0x9801 ∷ 0x3100 ∷ 0x00F0 ∷ 0x9802 ∷ 0x3FFC ∷ 0x00F0 ∷ 0x2441 ∷ 0xA423 ∷ 0xD7E0 ∷ 0xE400 ∷ []) (Err (Broken Access 0xF0300E)) ∷
    -- "ADD, ADDQ, ADDQT and address sums: ends added": the upper end F03FFFh is inside, with the yes, and F04003h is not
    -- SHLQ #2,R1; MOVEI #FFFh,R2; AND R2,R1; MOVEI #F03000h,R3; ADD R3,R1; LOAD (R1),R4; JR to itself; NOP
    row gpu (0x6041 ∷ 0x9802 ∷ 0x0FFF ∷ 0x0000 ∷ 0x2441 ∷ 0x9803 ∷ 0x3000 ∷ 0x00F0 ∷ 0x0061 ∷ 0xA424 ∷ 0xD7E0 ∷ 0xE400 ∷ []) (Ok tt) ∷
    -- SHLQ #2,R1; MOVEI #FFFh,R2; AND R2,R1; MOVEI #F03004h,R3; ADD R3,R1; LOAD (R1),R4; JR to itself; NOP
    row gpu (0x6041 ∷ 0x9802 ∷ 0x0FFF ∷ 0x0000 ∷ 0x2441 ∷ 0x9803 ∷ 0x3004 ∷ 0x00F0 ∷ 0x0061 ∷ 0xA424 ∷ 0xD7E0 ∷ 0xE400 ∷ []) (Err (Broken Access 0xF03012)) ∷
    -- MOVEI #F030FCh,R1; ADDQ #4,R1; LOAD (R1),R2; NOP; JR to itself; NOP
    row gpu (0x9801 ∷ 0x30FC ∷ 0x00F0 ∷ 0x0881 ∷ 0xA422 ∷ 0xE400 ∷ 0xD7E0 ∷ 0xE400 ∷ []) (Ok tt) ∷
    -- MOVEI #F030FCh,R1; ADDQT #4,R1; LOAD (R1),R2; NOP; JR to itself; NOP
    row gpu (0x9801 ∷ 0x30FC ∷ 0x00F0 ∷ 0x0C81 ∷ 0xA422 ∷ 0xE400 ∷ 0xD7E0 ∷ 0xE400 ∷ []) (Ok tt) ∷
    -- MOVEI #F03100h,R14; LOAD (R14+2),R1; JR to itself; NOP
    row gpu (0x980E ∷ 0x3100 ∷ 0x00F0 ∷ 0xAC41 ∷ 0xD7E0 ∷ 0xE400 ∷ []) (Ok tt) ∷
    -- MOVEI #F03FFCh,R14; LOAD (R14+1),R1; JR to itself; NOP
    row gpu (0x980E ∷ 0x3FFC ∷ 0x00F0 ∷ 0xAC21 ∷ 0xD7E0 ∷ 0xE400 ∷ []) (Err (Broken Access 0xF03006)) ∷
    -- "or the full range if the upper sum passes 2^32−1": the sum, modulo 2^32, would be F03100h; its yes survives
    -- MOVEI #FFFFFFFCh,R1; MOVEI #F03104h,R2; ADD R1,R2; LOAD (R2),R3; JR to itself; NOP
    row gpu (0x9801 ∷ 0xFFFC ∷ 0xFFFF ∷ 0x9802 ∷ 0x3104 ∷ 0x00F0 ∷ 0x0022 ∷ 0xA443 ∷ 0xD7E0 ∷ 0xE400 ∷ []) (Err (Broken Access 0xF0300E)) ∷
    -- MOVEI #FFFFFFFCh,R1; MOVEI #F03104h,R2; ADD R1,R2; MOVEI #FFFh,R3; AND R3,R2; MOVEI #F03000h,R3; ADD R3,R2; LOAD (R2),R4; JR to itself; NOP
    row gpu (0x9801 ∷ 0xFFFC ∷ 0xFFFF ∷ 0x9802 ∷ 0x3104 ∷ 0x00F0 ∷ 0x0022 ∷ 0x9803 ∷ 0x0FFF ∷ 0x0000 ∷ 0x2462 ∷ 0x9803 ∷ 0x3000 ∷ 0x00F0 ∷ 0x0062 ∷ 0xA444 ∷ 0xD7E0 ∷ 0xE400 ∷ []) (Ok tt) ∷
    -- "yes if both parts are": F03102h + 2 is F03104h, and no
    -- MOVEI #F03102h,R1; ADDQ #2,R1; LOAD (R1),R2; NOP; JR to itself; NOP
    row gpu (0x9801 ∷ 0x3102 ∷ 0x00F0 ∷ 0x0841 ∷ 0xA422 ∷ 0xE400 ∷ 0xD7E0 ∷ 0xE400 ∷ []) (Err (Broken Access 0xF03008)) ∷
    -- so also of a built register: F020FFh + 1 is F02100h, and no
    -- MOVEI #F020FFh,R1; ADDQ #1,R1; LOAD (R1),R2; NOP; JR to itself; NOP
    row gpu (0x9801 ∷ 0x20FF ∷ 0x00F0 ∷ 0x0821 ∷ 0xA422 ∷ 0xE400 ∷ 0xD7E0 ∷ 0xE400 ∷ []) (Err (Broken Access 0xF03008)) ∷
    -- MOVEI #F020FCh,R1; ADDQ #4,R1; LOAD (R1),R2; NOP; JR to itself; NOP
    row gpu (0x9801 ∷ 0x20FC ∷ 0x00F0 ∷ 0x0881 ∷ 0xA422 ∷ 0xE400 ∷ 0xD7E0 ∷ 0xE400 ∷ []) (Ok tt) ∷
    -- "SUBQ, SUBQT: ends less n if the lower end is at least n […]; yes if both are."
    -- MOVEI #F04000h,R1; SUBQ #4,R1; LOAD (R1),R2; NOP; JR to itself; NOP
    row gpu (0x9801 ∷ 0x4000 ∷ 0x00F0 ∷ 0x1881 ∷ 0xA422 ∷ 0xE400 ∷ 0xD7E0 ∷ 0xE400 ∷ []) (Ok tt) ∷
    -- MOVEI #F04000h,R1; SUBQT #4,R1; LOAD (R1),R2; NOP; JR to itself; NOP
    row gpu (0x9801 ∷ 0x4000 ∷ 0x00F0 ∷ 0x1C81 ∷ 0xA422 ∷ 0xE400 ∷ 0xD7E0 ∷ 0xE400 ∷ []) (Ok tt) ∷
    -- MOVEQ #4,R1; SUBQ #4,R1; MOVEI #F03000h,R2; ADD R2,R1; LOAD (R1),R3; NOP; JR to itself; NOP
    row gpu (0x8C81 ∷ 0x1881 ∷ 0x9802 ∷ 0x3000 ∷ 0x00F0 ∷ 0x0041 ∷ 0xA423 ∷ 0xE400 ∷ 0xD7E0 ∷ 0xE400 ∷ []) (Ok tt) ∷
    -- MOVEI #F03102h,R1; SUBQ #2,R1; LOAD (R1),R2; NOP; JR to itself; NOP
    row gpu (0x9801 ∷ 0x3102 ∷ 0x00F0 ∷ 0x1841 ∷ 0xA422 ∷ 0xE400 ∷ 0xD7E0 ∷ 0xE400 ∷ []) (Err (Broken Access 0xF03008)) ∷
    -- "else full": of 0 to FFCh; its yes survives
    -- MOVEI #FFCh,R2; AND R2,R1; SUBQ #4,R1; MOVEI #F03004h,R3; ADD R3,R1; LOAD (R1),R4; JR to itself; NOP
    row gpu (0x9802 ∷ 0x0FFC ∷ 0x0000 ∷ 0x2441 ∷ 0x1881 ∷ 0x9803 ∷ 0x3004 ∷ 0x00F0 ∷ 0x0061 ∷ 0xA424 ∷ 0xD7E0 ∷ 0xE400 ∷ []) (Err (Broken Access 0xF03012)) ∷
    -- MOVEI #FFCh,R2; AND R2,R1; SUBQ #4,R1; MOVEI #FFFh,R2; AND R2,R1; MOVEI #F03000h,R3; ADD R3,R1; LOAD (R1),R4; JR to itself; NOP
    row gpu (0x9802 ∷ 0x0FFC ∷ 0x0000 ∷ 0x2441 ∷ 0x1881 ∷ 0x9802 ∷ 0x0FFF ∷ 0x0000 ∷ 0x2441 ∷ 0x9803 ∷ 0x3000 ∷ 0x00F0 ∷ 0x0061 ∷ 0xA424 ∷ 0xD7E0 ∷ 0xE400 ∷ []) (Ok tt) ∷
    -- "SHLQ by 2 or more: full, yes." By 1 it is another write; the range is full also of an exact value, and by 32
    -- MOVEI #3C0C40h,R1; SHLQ #2,R1; LOAD (R1),R2; NOP; JR to itself; NOP
    row gpu (0x9801 ∷ 0x0C40 ∷ 0x003C ∷ 0x6041 ∷ 0xA422 ∷ 0xE400 ∷ 0xD7E0 ∷ 0xE400 ∷ []) (Err (Broken Access 0xF03008)) ∷
    -- SHLQ #32,R1; MOVEI #FFFh,R2; AND R2,R1; MOVEI #F03000h,R3; ADD R3,R1; LOAD (R1),R4; JR to itself; NOP
    row gpu (0x6001 ∷ 0x9802 ∷ 0x0FFF ∷ 0x0000 ∷ 0x2441 ∷ 0x9803 ∷ 0x3000 ∷ 0x00F0 ∷ 0x0061 ∷ 0xA424 ∷ 0xD7E0 ∷ 0xE400 ∷ []) (Ok tt) ∷
    -- SHLQ #1,R1; MOVEI #FFFh,R2; AND R2,R1; MOVEI #F03000h,R3; ADD R3,R1; LOAD (R1),R4; JR to itself; NOP
    row gpu (0x6021 ∷ 0x9802 ∷ 0x0FFF ∷ 0x0000 ∷ 0x2441 ∷ 0x9803 ∷ 0x3000 ∷ 0x00F0 ∷ 0x0061 ∷ 0xA424 ∷ 0xD7E0 ∷ 0xE400 ∷ []) (Err (Broken Access 0xF03012)) ∷
    -- SHLQ #32,R1; MOVEI #F03100h,R2; ADD R2,R1; LOAD (R1),R3; JR to itself; NOP
    row gpu (0x6001 ∷ 0x9802 ∷ 0x3100 ∷ 0x00F0 ∷ 0x0041 ∷ 0xA423 ∷ 0xD7E0 ∷ 0xE400 ∷ []) (Err (Broken Access 0xF0300A)) ∷
    -- and by 1 it is no also of a multiple of 4
    -- MOVEI #4h,R1; SHLQ #1,R1; MOVEI #FFFh,R2; AND R2,R1; MOVEI #F03000h,R3; ADD R3,R1; LOAD (R1),R4; NOP; JR to itself; NOP
    row gpu (0x9801 ∷ 0x0004 ∷ 0x0000 ∷ 0x6021 ∷ 0x9802 ∷ 0x0FFF ∷ 0x0000 ∷ 0x2441 ∷ 0x9803 ∷ 0x3000 ∷ 0x00F0 ∷ 0x0061 ∷ 0xA424 ∷ 0xE400 ∷ 0xD7E0 ∷ 0xE400 ∷ []) (Err (Broken Access 0xF03018)) ∷
    -- "Any other write to a register: full, no."
    -- MOVEI #F03100h,R1; OR R2,R1; LOAD (R1),R3; NOP; JR to itself; NOP
    row gpu (0x9801 ∷ 0x3100 ∷ 0x00F0 ∷ 0x2841 ∷ 0xA423 ∷ 0xE400 ∷ 0xD7E0 ∷ 0xE400 ∷ []) (Err (Broken Access 0xF03008)) ∷
    -- MOVEI #4h,R1; MOVEI #8h,R2; OR R2,R1; MOVEI #FFFh,R2; AND R2,R1; MOVEI #F03000h,R3; ADD R3,R1; LOAD (R1),R4; JR to itself; NOP
    row gpu (0x9801 ∷ 0x0004 ∷ 0x0000 ∷ 0x9802 ∷ 0x0008 ∷ 0x0000 ∷ 0x2841 ∷ 0x9802 ∷ 0x0FFF ∷ 0x0000 ∷ 0x2441 ∷ 0x9803 ∷ 0x3000 ∷ 0x00F0 ∷ 0x0061 ∷ 0xA424 ∷ 0xD7E0 ∷ 0xE400 ∷ []) (Err (Broken Access 0xF0301E)) ∷
    -- MOVEI #F03100h,R1; LOAD (R1),R1; LOAD (R1),R2; NOP; JR to itself; NOP
    row gpu (0x9801 ∷ 0x3100 ∷ 0x00F0 ∷ 0xA421 ∷ 0xA422 ∷ 0xE400 ∷ 0xD7E0 ∷ 0xE400 ∷ []) (Err (Broken Access 0xF03008)) ∷
    -- MOVEI #F03100h,R1; MOVEFA R1,R1; LOAD (R1),R2; NOP; JR to itself; NOP
    row gpu (0x9801 ∷ 0x3100 ∷ 0x00F0 ∷ 0x9421 ∷ 0xA422 ∷ 0xE400 ∷ 0xD7E0 ∷ 0xE400 ∷ []) (Err (Broken Access 0xF03008)) ∷
    -- MOVE PC,R1; LOAD (R1),R2; JR to itself; NOP
    row gpu (0xCC01 ∷ 0xA422 ∷ 0xD7E0 ∷ 0xE400 ∷ []) (Err (Broken Access 0xF03002)) ∷
    -- and only of that register; what writes none, and a jump, leave all as they were
    -- MOVEI #F03100h,R1; JR 1 to the MOVEI; NOP; MOVEQ #1,R2; MOVE R1,R3; AND R1,R4; ADD R1,R3; ADDQ #1,R3; SUBQ #1,R3; SHLQ #2,R4;
    -- OR R1,R3; CMP R2,R1; CMPQ #0,R1; BTST #0,R1; IMULTN R2,R1; IMACN R2,R1; MOVETA R2,R1; LOAD (R1),R5; LOAD (R1),R6; NOP;
    -- JR to itself; NOP
    row gpu (0x9801 ∷ 0x3100 ∷ 0x00F0 ∷ 0xD781 ∷ 0xE400 ∷ 0x8C22 ∷ 0x8823 ∷ 0x2424 ∷ 0x0023 ∷ 0x0823 ∷ 0x1823 ∷ 0x6044 ∷ 0x2823 ∷ 0x7841 ∷ 0x7C01 ∷ 0x3401 ∷ 0x4841 ∷ 0x5041 ∷ 0x9041 ∷ 0xA425 ∷ 0xA426 ∷ 0xE400 ∷ 0xD7E0 ∷ 0xE400 ∷ []) (Ok tt) ∷
    -- MOVEI #F03100h,R1; MOVEI #F03000h,R2; JUMP 1,(R2); NOP; MOVE PC,R5; LOAD (R1),R3; LOAD (R2),R4; MOVE PC,R5; JR to itself; NOP
    row gpu (0x9801 ∷ 0x3100 ∷ 0x00F0 ∷ 0x9802 ∷ 0x3000 ∷ 0x00F0 ∷ 0xD041 ∷ 0xE400 ∷ 0xCC05 ∷ 0xA423 ∷ 0xA444 ∷ 0xCC05 ∷ 0xD7E0 ∷ 0xE400 ∷ []) (Ok tt) ∷
    -- "the data window is the rest of RAM": the first long behind the code is in it, and the last one of the code is not
    -- MOVEI #F0300Ch,R1; STORE R0,(R1); JR to itself; NOP
    row gpu (0x9801 ∷ 0x300C ∷ 0x00F0 ∷ 0xBC20 ∷ 0xD7E0 ∷ 0xE400 ∷ []) (Ok tt) ∷
    -- MOVEI #F03008h,R1; STORE R0,(R1); JR to itself; NOP
    row gpu (0x9801 ∷ 0x3008 ∷ 0x00F0 ∷ 0xBC20 ∷ 0xD7E0 ∷ 0xE400 ∷ []) (Err (Broken Access 0xF03006)) ∷
    -- and it is empty where the code fills RAM: here one of 12 bytes
    -- MOVEI #F0300Ch,R1; STORE R0,(R1); JR to itself; NOP
    row small (0x9801 ∷ 0x300C ∷ 0x00F0 ∷ 0xBC20 ∷ 0xD7E0 ∷ 0xE400 ∷ []) (Err (Broken Access 0xF03006)) ∷
    -- MOVEI #F03008h,R1; STORE R0,(R1); JR to itself; NOP
    row small (0x9801 ∷ 0x3008 ∷ 0x00F0 ∷ 0xBC20 ∷ 0xD7E0 ∷ 0xE400 ∷ []) (Err (Broken Access 0xF03006)) ∷
    -- What rules 4 and 5 ask of an instruction stands on both sides too: a LOAD or STORE may follow a jump, a JR or JUMP may be the
    -- next to last, and condition 16 is not condition 0
    -- MOVEI #F03100h,R0; NOP; JR to the MOVEI; LOAD (R0),R1
    row gpu (0x9800 ∷ 0x3100 ∷ 0x00F0 ∷ 0xE400 ∷ 0xD760 ∷ 0xA401 ∷ []) (Ok tt) ∷
    -- MOVEI #F03100h,R1; MOVEI #F03000h,R2; JUMP (R2); STORE R1,(R1)
    row gpu (0x9801 ∷ 0x3100 ∷ 0x00F0 ∷ 0x9802 ∷ 0x3000 ∷ 0x00F0 ∷ 0xD040 ∷ 0xBC21 ∷ []) (Ok tt) ∷
    -- NOP; NOP; JR 16 to itself; NOP
    row gpu (0xE400 ∷ 0xE400 ∷ 0xD7F0 ∷ 0xE400 ∷ []) (Err (Broken Ending 0xF03006)) ∷ []

pub record KnownRows : Type 0 where
  pub rows_hold : map answer_to rows ≡ map (λ r. r.says) rows
