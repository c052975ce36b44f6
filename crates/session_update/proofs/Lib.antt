mod UpdateLaws
