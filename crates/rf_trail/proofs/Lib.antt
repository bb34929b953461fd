mod Undoing
